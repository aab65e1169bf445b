use Rattle.cat_work.specs.TurnLaws.{turned}
use Rattle.cat_collect.proofs.Owned.{sweeping}
use Rattle.cat_collect.proofs.turns.give_up.Goals as goal

pub drop_sweep-requires-clause-is_open : goal.drop_sweep-requires-clause-is_open
drop_sweep-requires-clause-is_open g c κs within = sweeping _ c.args.pass.now c.enter-held.result.value c.args.sweep c.requires.own.0 c.requires.own.1.left_is c.requires.own.1.opening_is c.enter-held.ensures.own

pub returns-clause-dropped : goal.returns-clause-dropped
returns-clause-dropped g c = let held = c.enter-held.result.value in let left = c.drop_sweep.new.self in (
  held,
  left,
  turned c.args.desk.now c.args.pass.now c.enter-held.new.pass c.leave.new.pass held left c.enter-held.ensures.turn.1 c.enter-held.ensures.legal.0 c.drop_sweep.ensures.acts.opened c.enter-held.ensures.follows.0 c.enter-held.ensures.mark.0 c.enter-held.ensures.own c.enter-held.ensures.alone
      c.history.ensures.led c.history.ensures.draft c.history.ensures.base c.history-2.ensures.led c.history-2.ensures.draft c.history-2.ensures.base c.leave.ensures.seen.0 c.leave.ensures.mark.0 c.drop_sweep.ensures.acts.later.grows c.leave.ensures.left,
  c.drop_sweep.ensures.dropped,
)
