use Rattle.cat_model.specs.declared.command.Command.TheVariants as commands
use Rattle.cat_decisions.proofs.Decided.{decides_command}
use Rattle.cat_decisions.proofs.reference.decide_reference.Goals as goal

pub returns-in-Create : goal.returns-in-Create
returns-in-Create c = record { decides = λ turn. decides_command c.args.catalogue.now turn c.args.command.now (commands.Create c.in-Create.create) c.decide_create.result c.in-Create.is (c.decide_create.ensures turn.draft) }

pub returns-in-Assign : goal.returns-in-Assign
returns-in-Assign c = record { decides = λ turn. decides_command c.args.catalogue.now turn c.args.command.now (commands.Assign c.in-Assign.assign) c.decide_assign.result c.in-Assign.is (c.decide_assign.ensures turn.draft) }

pub returns-in-Delete : goal.returns-in-Delete
returns-in-Delete c = record { decides = λ turn. decides_command c.args.catalogue.now turn c.args.command.now (commands.Delete c.in-Delete.delete) c.decide_delete.result c.in-Delete.is (c.decide_delete.ensures turn.draft) }
