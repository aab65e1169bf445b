use Rattle.std.proofs.Common.{Ok, refl}
use Rattle.sha2.specs.Sha256.{sha256}
use Rattle.cat_model.specs.declared.command.Command.TheVariants as commands
use Rattle.cat_model.specs.Moves.{step_assign}
use Rattle.cat_model.specs.State.{moved_reference}
use Rattle.cat_checks.specs.WithinLaws.{assign_within}
use Rattle.cat_decisions.proofs.Referred.{decided_by}
use Rattle.cat_decisions.proofs.Within.{left_within}
use Rattle.cat_decisions.proofs.reference.decide_assign.Goals as goal

pub referred-requires-clause-within : goal.referred-requires-clause-within
referred-requires-clause-within c =
    let state = c.args.catalogue.now in
    left_within state _ _ (step_assign sha256 state c.args.assign.now) (assign_within sha256 state c.args.assign.now) c.in_ok-moved.ensures.step

pub returns : goal.returns
returns c draft =
    let state = c.args.catalogue.now in
    let moved = c.in_ok-moved.moved in
    decided_by draft state (commands.Assign c.args.assign.now) _ (moved_reference state.references moved) moved c.in_ok-reply.reply (Ok c.referred.result) c.in_ok-moved.ensures.step c.in_ok-reply.ensures
    (c.referred.ensures draft (commands.Assign c.args.assign.now) c.in_ok-command.ensures (rw c.in_ok-reply.ensures refl))
