use Rattle.std.proofs.Common.{List, Ok, sym, ap, subst, ◌∙◌}
use Rattle.cat_model.specs.declared.log_entry.LogEntry.{LogEntry}
use Rattle.cat_model.specs.Book.{Book}
use Rattle.cat_state.proofs.Appended.{grows_none, stays}
use Rattle.cat_state.specs.Kept.{Keeps}
use Rattle.cat_core.proofs.Carried.{carried_change, carried_failure, carried_reply, change_is_logged, may_carry, may_log, reply_logs}
use Rattle.cat_core.proofs.Growing.{above_made, above_taking}
use Rattle.cat_core.proofs.ledger.Ledger.carry_out.Goals as goal

pub returns-in-Err-clause-call : goal.returns-in-Err-clause-call
returns-in-Err-clause-call g c = λ command is. carried_failure c.args.self.now c.args.turn command c.take.new.self c.args.decided c.in-Err.failure c.in-Err.is c.take.ensures is

pub returns-in-Err-clause-later : goal.returns-in-Err-clause-later
returns-in-Err-clause-later g c = above_taking c.args.self.now c.take.new.self c.args.turn.draft c.take.ensures

pub returns-in-Err-clause-keeps : goal.returns-in-Err-clause-keeps
returns-in-Err-clause-keeps g c = λ command is. stays g.K.Keeper (g.met.K.Keeper g.world.𝓛 g.world.𝓜 g.world.𝓡 ((λ s x. x), (λ x. x), (λ x. x), λ x. x)).safe (g.met.K.Keeper g.world.𝓛 g.world.𝓜 g.world.𝓡 ((λ s x. x), (λ x. x), (λ x. x), λ x. x)).only_now c.args.keeper.now

pub returns-in-Ok-Told-clause-call : goal.returns-in-Ok-Told-clause-call
returns-in-Ok-Told-clause-call g c = λ command is. carried_reply c.args.self.now c.args.turn command c.take.new.self c.args.decided c.in-Ok-Told.reply c.told.result (c.in-Ok-Told.is ∙ ap Ok c.in-Ok-Told.field-0-is) c.take.ensures c.told.ensures is

pub returns-in-Ok-Told-clause-later : goal.returns-in-Ok-Told-clause-later
returns-in-Ok-Told-clause-later g c = above_taking c.args.self.now c.take.new.self c.args.turn.draft c.take.ensures

pub returns-in-Ok-Told-clause-keeps : goal.returns-in-Ok-Told-clause-keeps
returns-in-Ok-Told-clause-keeps g c = λ command is.
    rw (reply_logs c.args.self.now c.args.turn command c.args.decided c.in-Ok-Told.reply (c.in-Ok-Told.is ∙ ap Ok c.in-Ok-Told.field-0-is) is) (grows_none g.K.Keeper (g.met.K.Keeper g.world.𝓛 g.world.𝓜 g.world.𝓡 ((λ s x. x), (λ x. x), (λ x. x), λ x. x)).safe (g.met.K.Keeper g.world.𝓛 g.world.𝓜 g.world.𝓡 ((λ s x. x), (λ x. x), (λ x. x), λ x. x)).only_now c.args.keeper.now c.requires.up)

pub change-requires-clause-may : goal.change-requires-clause-may
change-requires-clause-may g c = λ κs lives. may_carry c.args.self.now c.args.turn c.requires.decided.0 c.take.new.self c.args.decided c.in-Ok-Made.making (c.in-Ok-Made.is ∙ ap Ok c.in-Ok-Made.field-0-is) c.take.ensures c.requires.decided.1

pub change-requires-clause-logged : goal.change-requires-clause-logged
change-requires-clause-logged g c = λ κs lives. may_log c.args.self.now c.args.turn c.requires.decided.0 c.take.new.self c.args.decided c.in-Ok-Made.making (c.in-Ok-Made.is ∙ ap Ok c.in-Ok-Made.field-0-is) c.take.ensures c.requires.decided.1

pub change-requires-clause-kept : goal.change-requires-clause-kept
change-requires-clause-kept g c = λ κs lives. c.requires.kept ∙ sym (ap (λ (b : Book). b.state.place) c.take.ensures)

pub returns-in-Ok-Made-clause-call : goal.returns-in-Ok-Made-clause-call
returns-in-Ok-Made-clause-call g c = λ command is.
    carried_change c.args.self.now c.args.turn command c.take.new.self c.change.new.self c.args.decided c.in-Ok-Made.making c.change.result (c.in-Ok-Made.is ∙ ap Ok c.in-Ok-Made.field-0-is) c.take.ensures c.change.ensures.ok c.change.ensures.told c.change.ensures.err c.change.ensures.unrefused is

pub returns-in-Ok-Made-clause-later : goal.returns-in-Ok-Made-clause-later
returns-in-Ok-Made-clause-later g c = above_made c.args.self.now c.take.new.self c.change.new.self c.args.turn c.in-Ok-Made.making c.change.result c.take.ensures c.change.ensures.ok c.change.ensures.err

pub returns-in-Ok-Made-clause-keeps : goal.returns-in-Ok-Made-clause-keeps
returns-in-Ok-Made-clause-keeps g c = λ command is.
    subst (λ (l : List LogEntry). Keeps g.K.Keeper c.args.keeper.now c.change.new.keeper l c.change.result) (sym (change_is_logged c.args.self.now c.args.turn command c.take.new.self c.args.decided c.in-Ok-Made.making (c.in-Ok-Made.is ∙ ap Ok c.in-Ok-Made.field-0-is) c.take.ensures is)) c.change.ensures.keeps
