use Rattle.cat_work.specs.TurnLaws.{turned}
use Rattle.cat_work.specs.Turns.{Turned}
use Rattle.cat_collect.proofs.Owned.{sweeping}
use Rattle.cat_collect.proofs.Turning.{drained_in, left_in}
use Rattle.cat_collect.proofs.turns.drain.Goals as goal

pub drain-drained-requires-clause-is_open : goal.drain-drained-requires-clause-is_open
drain-drained-requires-clause-is_open g c κs within = sweeping _ c.args.pass.now c.enter-held.result.value c.args.sweep.now c.requires.own.0 c.requires.own.1.left_is c.requires.own.1.opening_is c.enter-held.ensures.own

pub returns-clause-drained : goal.returns-clause-drained
returns-clause-drained g c = let held = c.enter-held.result.value in let left = c.drain-drained.new.self in let turn : Turned c.args.desk.now c.args.pass.now c.leave.new.pass held left =
    turned c.args.desk.now c.args.pass.now c.enter-held.new.pass c.leave.new.pass held left c.enter-held.ensures.turn.1 c.enter-held.ensures.legal.0 c.drain-drained.ensures.acts.opened c.enter-held.ensures.follows.0 c.enter-held.ensures.mark.0 c.enter-held.ensures.own c.enter-held.ensures.alone
    c.history.ensures.led c.history.ensures.draft c.history.ensures.base c.history-2.ensures.led c.history-2.ensures.draft c.history-2.ensures.base c.leave.ensures.seen.0 c.leave.ensures.mark.0 c.drain-drained.ensures.acts.later.grows c.leave.ensures.left in
    drained_in g.row.K.Denot c.args.desk.now c.args.pass.now c.leave.new.pass held left c.drain-drained.result turn c.drain-drained.ensures.drained c.sweep_is_told.ensures.linked c.sweep_is_told-2.ensures.known

pub returns-clause-stays : goal.returns-clause-stays
returns-clause-stays g c = let held = c.enter-held.result.value in let left = c.drain-drained.new.self in let turn : Turned c.args.desk.now c.args.pass.now c.leave.new.pass held left =
    turned c.args.desk.now c.args.pass.now c.enter-held.new.pass c.leave.new.pass held left c.enter-held.ensures.turn.1 c.enter-held.ensures.legal.0 c.drain-drained.ensures.acts.opened c.enter-held.ensures.follows.0 c.enter-held.ensures.mark.0 c.enter-held.ensures.own c.enter-held.ensures.alone
    c.history.ensures.led c.history.ensures.draft c.history.ensures.base c.history-2.ensures.led c.history-2.ensures.draft c.history-2.ensures.base c.leave.ensures.seen.0 c.leave.ensures.mark.0 c.drain-drained.ensures.acts.later.grows c.leave.ensures.left in
    left_in g.row.K.Denot c.args.desk.now c.args.pass.now c.leave.new.pass held left c.drain-drained.result turn c.drain-drained.ensures.stays
