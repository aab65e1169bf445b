use Rattle.std.proofs.Common.{refl}
use Rattle.cat_model.specs.declared.command.Command.TheVariants.{Merge}
use Rattle.cat_decisions.proofs.DraftsDecided.{decides_by}
use Rattle.cat_decisions.proofs.Outcomes.{merge_step}
use Rattle.cat_decisions.proofs.merge.settle_merge.Goals as goal

pub returns : goal.returns
returns c =
    let state = c.args.catalogue.now in
    record {
      decides = λ number.
          decides_by number state (Merge c.args.merge.now) (c.args.draft).command _ _ c.settle.result
          (merge_step state c.args.merge.now c.args.branch.now c.args.source.now c.args.draft c.args.opened c.args.moment c.requires.opened c.requires.drafted) (c.requires.drafted).command (λ reply. refl) c.settle.ensures.step;
    }
