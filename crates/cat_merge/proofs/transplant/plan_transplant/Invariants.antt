use Rattle.cat_merge.proofs.InTurn.{AllFit, Left}
use Rattle.cat_merge.proofs.transplant.plan_transplant.Given as goal

abbrev pub invariant-loop-step : goal.invariant-loop-step
invariant-loop-step l = record {
  left : Left l.steps l.target l.modes l.step-index l.plans.items;
  fit : AllFit l.steps l.target l.plans.items;
}
