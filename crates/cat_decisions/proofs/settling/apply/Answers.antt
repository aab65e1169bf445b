use Rattle.std.proofs.Common.{Ok, sym, subst}
use Rattle.cat_model.specs.Merges.{step_applied}
use Rattle.sha2.specs.Sha256.{sha256}
use Rattle.cat_decisions.specs.declared.decision.Decision.{Decision}
use Rattle.cat_decisions.specs.Drafts.{plans_for}
use Rattle.cat_decisions.specs.Settling.{Settles}
use Rattle.cat_decisions.proofs.Settled.{commits_refused, contents_refused, decision_settles}
use Rattle.cat_decisions.proofs.settling.apply.Goals as goal

pub returns-in-Err : goal.returns-in-Err
returns-in-Err c =
    record { step = contents_refused c.args.catalogue.now c.args.draft c.args.branch.now c.args.opened c.args.moment c.in-Err.failure (rw c.as_slice.ensures.value at c.in-Err.ensures.exact) }

pub returns-in_ok-decision-in-Ok : goal.returns-in_ok-decision-in-Ok
returns-in_ok-decision-in-Ok c =
    let state = c.args.catalogue.now in
    record {
      step =
          subst (λ (d : Decision). Settles state (c.args.draft).command (step_applied sha256 state (plans_for c.args.draft c.args.branch.now c.args.opened c.args.moment)) (Ok d)) (sym c.in_ok-decision-in-Ok.ensures)
          (decision_settles state c.args.draft c.args.branch.now c.args.opened c.args.moment _ (rw c.as_slice.ensures.value at c.in_default.ensures.exact) c.requires.details (c.args.draft).command c.requires.room c.requires.drafted.plans.upon c.in-Ok.added c.in-Ok.ensures.added);
    }

pub returns-in-Err-added : goal.returns-in-Err-added
returns-in-Err-added c =
    let state = c.args.catalogue.now in
    record { step = commits_refused state c.args.draft c.args.branch.now c.args.opened c.args.moment c.in-Err-added.failure (rw c.as_slice.ensures.value at c.in_default.ensures.exact) c.in-Err-added.ensures.refused }
