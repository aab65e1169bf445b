use Rattle.std.proofs.Common.{Ok, refl}
use Rattle.sha2.specs.Sha256.{sha256}
use Rattle.cat_model.specs.declared.command.Command.TheVariants as commands
use Rattle.cat_model.specs.Moves.{step_create}
use Rattle.cat_model.specs.State.{with_reference}
use Rattle.cat_checks.specs.WithinLaws.{create_within}
use Rattle.cat_decisions.proofs.Referred.{decided_by}
use Rattle.cat_decisions.proofs.Within.{left_within}
use Rattle.cat_decisions.proofs.reference.decide_create.Goals as goal

pub referred-requires-clause-within : goal.referred-requires-clause-within
referred-requires-clause-within c =
    let state = c.args.catalogue.now in
    left_within state _ _ (step_create sha256 state c.args.create.now) (create_within sha256 state c.args.create.now) c.in_ok-made.ensures.step

pub returns : goal.returns
returns c draft =
    let state = c.args.catalogue.now in
    let made = c.in_ok-made.made in
    decided_by draft state (commands.Create c.args.create.now) _ (with_reference state.references made) made c.in_ok-reply.reply (Ok c.referred.result) c.in_ok-made.ensures.step c.in_ok-reply.ensures
    (c.referred.ensures draft (commands.Create c.args.create.now) c.in_ok-command.ensures (rw c.in_ok-reply.ensures refl))
