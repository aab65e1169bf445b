use Rattle.std.proofs.Common.{Ok, refl}
use Rattle.cat_model.specs.declared.command.Command.TheVariants as commands
use Rattle.cat_model.specs.declared.reply.Reply.TheVariants as replies
use Rattle.cat_model.specs.Moves.{step_delete}
use Rattle.cat_model.specs.State.{without_reference}
use Rattle.cat_checks.specs.WithinLaws.{delete_within}
use Rattle.cat_decisions.proofs.Referred.{decided_by}
use Rattle.cat_decisions.proofs.Within.{left_within}
use Rattle.cat_decisions.proofs.reference.decide_delete.Goals as goal

pub referred-requires-clause-within : goal.referred-requires-clause-within
referred-requires-clause-within c =
    let state = c.args.catalogue.now in
    left_within state _ (replies.Reference c.in_ok-removed.removed) (step_delete state c.args.delete.now) (delete_within state c.args.delete.now) (rw c.in_ok-name.ensures.cases c.in_ok-removed.ensures.step)

pub returns : goal.returns
returns c draft =
    let state = c.args.catalogue.now in
    let removed = c.in_ok-removed.removed in
    decided_by draft state (commands.Delete c.args.delete.now) _ (without_reference state.references c.in_ok-name.name) removed removed (Ok c.referred.result) (rw c.in_ok-name.ensures.cases c.in_ok-removed.ensures.step) refl
    (c.referred.ensures draft (commands.Delete c.args.delete.now) c.in_ok-command.ensures refl)
