use Rattle.std.proofs.Common.{◌∙◌}
use Rattle.cat_decisions.proofs.Settled.{clash_is, clash_told}
use Rattle.cat_decisions.proofs.settling.by_conflicts.Goals as goal

pub returns : goal.returns
returns c =
    let state = c.args.catalogue.now in
    record {
      step =
          clash_told state _ _ (c.in_ok-clashing.clashing)
          (clash_is state c.args.draft c.args.branch.now c.args.opened c.args.moment _ _ c.requires.conflicts c.requires.details (λ none. c.if-len-eq0.false (c.len.ensures ∙ none)))
          c.in_ok-clashing.ensures;
    }
