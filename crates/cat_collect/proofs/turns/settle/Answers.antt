use Rattle.cat_work.specs.TurnLaws.{turned}
use Rattle.cat_collect.proofs.Owned.{sweeping}
use Rattle.cat_collect.proofs.Turning.{still_given, still_walked}
use Rattle.cat_collect.proofs.turns.settle.Goals as goal

pub sweep-settled-requires-clause-is_open : goal.sweep-settled-requires-clause-is_open
sweep-settled-requires-clause-is_open g c κs within = sweeping _ c.args.pass.now c.enter-held.result.value c.args.sweep c.requires.holds.0 c.requires.holds.1.left_is c.requires.holds.1.opening_is c.enter-held.ensures.own

pub sweep-settled-requires-clause-marks : goal.sweep-settled-requires-clause-marks
sweep-settled-requires-clause-marks g c κs within = still_given c.args.desk.now c.args.pass.now c.enter-held.result.value c.args.sweep c.args.marks c.requires.holds c.enter-held.ensures.own c.enter-held.ensures.legal.0 c.enter-held.ensures.follows.0 c.history.ensures.led c.history.ensures.base c.sweep_is_told.ensures.linked

pub sweep-settled-requires-clause-walked : goal.sweep-settled-requires-clause-walked
sweep-settled-requires-clause-walked g c κs within = still_walked c.args.desk.now c.args.pass.now c.enter-held.result.value c.args.sweep c.args.marks c.requires.holds c.enter-held.ensures.legal.0 c.enter-held.ensures.follows.0 c.history.ensures.led c.sweep_is_told.ensures.linked

pub returns-clause-settled : goal.returns-clause-settled
returns-clause-settled g c = let held = c.enter-held.result.value in let left = c.sweep-settled.new.self in (
  held,
  left,
  turned c.args.desk.now c.args.pass.now c.enter-held.new.pass c.leave.new.pass held left c.enter-held.ensures.turn.1 c.enter-held.ensures.legal.0 c.sweep-settled.ensures.acts.opened c.enter-held.ensures.follows.0 c.enter-held.ensures.mark.0 c.enter-held.ensures.own c.enter-held.ensures.alone
      c.history.ensures.led c.history.ensures.draft c.history.ensures.base c.history-2.ensures.led c.history-2.ensures.draft c.history-2.ensures.base c.leave.ensures.seen.0 c.leave.ensures.mark.0 c.sweep-settled.ensures.acts.later.grows c.leave.ensures.left,
  c.sweep-settled.ensures.swept,
)
