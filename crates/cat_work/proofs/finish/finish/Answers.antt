use Rattle.std.proofs.Common.{inr, subst}
use Rattle.cat_decisions.specs.Builds.{IsBuilt}
use Rattle.cat_model.specs.State.{State}
use Rattle.cat_work.proofs.Turning.{built_before, ends_last, turned}
use Rattle.cat_work.proofs.finish.finish.Goals as goal

pub returns-in_default-clause-finishes : goal.returns-in_default-clause-finishes
returns-in_default-clause-finishes g c = let x = c.give_up.ensures.dropped in (x.0, x.1, x.2, inr (inr (c.out_of_memory.ensures, x.3)))

pub settle_or_drop-answer-requires-clause-built : goal.settle_or_drop-answer-requires-clause-built
settle_or_drop-answer-requires-clause-built g c κs within = built_before c.args.desk.now c.args.pass.now c.enter-held.result.value c.args.trying.draft.call c.in-Ok.built c.enter-held.ensures.legal.0 c.enter-held.ensures.follows.0 c.history.ensures.led
    (subst (λ (x : State). IsBuilt x c.args.trying.draft.call c.in-Ok.built) c.requires.tries.view_is c.in-Ok.ensures)

pub returns-clause-finishes : goal.returns-clause-finishes
returns-clause-finishes g c = let held = c.enter-held.result.value in let left = c.settle_or_drop-answer.new.store in (
  held,
  left,
  turned c.args.desk.now c.args.pass.now c.enter-held.new.pass c.leave.new.pass held left c.enter-held.ensures.turn.1 c.enter-held.ensures.legal.0 c.settle_or_drop-answer.ensures.acts.opened c.enter-held.ensures.follows.0 c.enter-held.ensures.mark.0 c.enter-held.ensures.own c.enter-held.ensures.alone
      c.history.ensures.led c.history.ensures.draft c.history.ensures.base c.history-2.ensures.led c.history-2.ensures.draft c.history-2.ensures.base c.leave.ensures.seen.0 c.leave.ensures.mark.0 c.settle_or_drop-answer.ensures.acts.later.grows c.leave.ensures.left,
  ends_last held c.args.trying.draft c.args.trying.view c.in-Ok.built c.args.trying.pairs.items c.args.moment c.settle_or_drop-answer.result left c.in-Ok.ensures c.settle_or_drop-answer.ensures.settles,
)
