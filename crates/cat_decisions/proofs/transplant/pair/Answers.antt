use Rattle.std.proofs.Common.{sym, ◌∙◌}
use Rattle.std.specs.Vec.Iter.{into_iter_items}
use Rattle.cat_decisions.proofs.Paired.{pairs_done}
use Rattle.cat_decisions.proofs.transplant.pair.Goals as goal

pub returns : goal.returns
returns c =
    let left = c.loop-plan.plan-iterator in
    pairs_done _ _ (into_iter_items c.loop-plan.metas) (into_iter_items left) (sym left.rest.ok.0 ∙ c.in-None.ensures.steps.0) c.loop-plan.invariant
