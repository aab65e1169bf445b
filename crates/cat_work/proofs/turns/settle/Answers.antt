use Rattle.cat_work.proofs.Turning.{built_before, turned}
use Rattle.cat_work.proofs.turns.settle.Goals as goal

pub settle-settled-requires-clause-built : goal.settle-settled-requires-clause-built
settle-settled-requires-clause-built g c κs within = built_before c.args.desk.now c.args.pass.now c.enter-held.result.value c.args.draft.call c.args.built c.enter-held.ensures.legal.0 c.enter-held.ensures.follows.0 c.history.ensures.led c.requires.built

pub returns-clause-settled : goal.returns-clause-settled
returns-clause-settled g c = let held = c.enter-held.result.value in let left = c.settle-settled.new.self in (
  held,
  left,
  turned c.args.desk.now c.args.pass.now c.enter-held.new.pass c.leave.new.pass held left c.enter-held.ensures.turn.1 c.enter-held.ensures.legal.0 c.settle-settled.ensures.acts.opened c.enter-held.ensures.follows.0 c.enter-held.ensures.mark.0 c.enter-held.ensures.own c.enter-held.ensures.alone
      c.history.ensures.led c.history.ensures.draft c.history.ensures.base c.history-2.ensures.led c.history-2.ensures.draft c.history-2.ensures.base c.leave.ensures.seen.0 c.leave.ensures.mark.0 c.settle-settled.ensures.acts.later.grows c.leave.ensures.left,
  (c.settle-settled.ensures.settles, c.settle-settled.ensures.gone),
)
