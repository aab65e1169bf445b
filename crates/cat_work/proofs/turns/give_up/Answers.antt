use Rattle.cat_work.proofs.Turning.{turned}
use Rattle.cat_work.proofs.turns.give_up.Goals as goal

pub returns-clause-dropped : goal.returns-clause-dropped
returns-clause-dropped g c = let held = c.enter-held.result.value in let left = c.drop_draft.new.self in (
  held,
  left,
  turned c.args.desk.now c.args.pass.now c.enter-held.new.pass c.leave.new.pass held left c.enter-held.ensures.turn.1 c.enter-held.ensures.legal.0 c.drop_draft.ensures.acts.opened c.enter-held.ensures.follows.0 c.enter-held.ensures.mark.0 c.enter-held.ensures.own c.enter-held.ensures.alone
      c.history.ensures.led c.history.ensures.draft c.history.ensures.base c.history-2.ensures.led c.history-2.ensures.draft c.history-2.ensures.base c.leave.ensures.seen.0 c.leave.ensures.mark.0 c.drop_draft.ensures.acts.later.grows c.leave.ensures.left,
  c.drop_draft.ensures.dropped,
)
