use Rattle.cat_core.proofs.Carried.{change_again, may_again, reply_again}
use Rattle.cat_core.proofs.ledger.Ledger.redo.Goals as goal

pub returns-in-Told : goal.returns-in-Told
returns-in-Told c = λ command is. reply_again c.args.self.now c.args.turn command c.take.new.self c.args.decision c.in-Told.reply c.told.result c.in-Told.is c.take.ensures c.told.ensures is

pub change_again-requires : goal.change_again-requires
change_again-requires c = may_again c.args.self.now c.args.turn c.requires.0 c.take.new.self c.args.decision c.in-Made.making c.in-Made.is c.take.ensures c.requires.1

pub returns-in-Made : goal.returns-in-Made
returns-in-Made c = λ command is. change_again c.args.self.now c.args.turn command c.take.new.self c.change_again.new.self c.args.decision c.in-Made.making c.change_again.result c.in-Made.is c.take.ensures c.change_again.ensures.ok c.change_again.ensures.told is
