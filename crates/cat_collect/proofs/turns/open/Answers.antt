use Rattle.std.proofs.Common.{◌∙◌}
use Rattle.cat_work.specs.TurnLaws.{turned}
use Rattle.cat_work.specs.Turns.{Turned}
use Rattle.cat_collect.proofs.Turning.{opened_in, refused_in}
use Rattle.cat_collect.proofs.turns.open.Goals as goal

pub returns-clause-opened : goal.returns-clause-opened
returns-clause-opened g c = let held = c.enter-held.result.value in let left = c.open_sweep-opened.new.self in let turn : Turned c.args.desk.now c.args.pass.now c.leave.new.pass held left =
    turned c.args.desk.now c.args.pass.now c.enter-held.new.pass c.leave.new.pass held left c.enter-held.ensures.turn.1 c.enter-held.ensures.legal.0 c.open_sweep-opened.ensures.acts.opened c.enter-held.ensures.follows.0 c.enter-held.ensures.mark.0 c.enter-held.ensures.own c.enter-held.ensures.alone
    c.history.ensures.led c.history.ensures.draft c.history.ensures.base c.history-2.ensures.led c.history-2.ensures.draft c.history-2.ensures.base c.leave.ensures.seen.0 c.leave.ensures.mark.0 c.open_sweep-opened.ensures.acts.later.grows c.leave.ensures.left in
    opened_in g.row.K.Denot c.args.desk.now c.args.policy c.args.pass.now c.leave.new.pass c.number.result held left c.open_sweep-opened.result (c.number.ensures ∙ c.enter-held.ensures.turn.1) turn c.open_sweep-opened.ensures.opened c.sweep_is_told-2.ensures.known

pub returns-clause-refused : goal.returns-clause-refused
returns-clause-refused g c = let held = c.enter-held.result.value in let left = c.open_sweep-opened.new.self in let turn : Turned c.args.desk.now c.args.pass.now c.leave.new.pass held left =
    turned c.args.desk.now c.args.pass.now c.enter-held.new.pass c.leave.new.pass held left c.enter-held.ensures.turn.1 c.enter-held.ensures.legal.0 c.open_sweep-opened.ensures.acts.opened c.enter-held.ensures.follows.0 c.enter-held.ensures.mark.0 c.enter-held.ensures.own c.enter-held.ensures.alone
    c.history.ensures.led c.history.ensures.draft c.history.ensures.base c.history-2.ensures.led c.history-2.ensures.draft c.history-2.ensures.base c.leave.ensures.seen.0 c.leave.ensures.mark.0 c.open_sweep-opened.ensures.acts.later.grows c.leave.ensures.left in
    refused_in g.row.K.Denot c.args.desk.now c.args.pass.now c.leave.new.pass held left c.open_sweep-opened.result turn c.open_sweep-opened.ensures.refused c.sweep_is_told.ensures.marked
