use Rattle.std.proofs.Common.{◌≡◌, ◌++◌}
use Rattle.std.specs.Vec.Iter.{into_iter_items}
use Rattle.cat_decisions.specs.Drafts.{paired}
use Rattle.cat_decisions.proofs.transplant.pair.Given as goal

abbrev pub invariant-loop-plan : goal.invariant-loop-plan
invariant-loop-plan l = l.out.items ++ paired (into_iter_items l.metas) (into_iter_items l.plan-iterator) ≡ paired l.fn.metas.items l.fn.plans.items
