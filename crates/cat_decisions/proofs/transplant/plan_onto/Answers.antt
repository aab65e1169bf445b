use Rattle.std.proofs.Common.{◌≡◌, true, sym, subst}
use Rattle.cat_model.specs.Maps.{Map}
use Rattle.cat_model.specs.Namespaces.{is_well_formed}
use Rattle.cat_merge.specs.Planned.{AreUpon}
use Rattle.cat_decisions.proofs.transplant.plan_onto.Goals as goal

pub returns-clause-plans : goal.returns-clause-plans
returns-clause-plans c = record {
  upon = subst (λ (m : Map). AreUpon m (c.in_ok-plans.plans).items) c.in_ok-target.ensures c.in_ok-plans.ensures.after;
  well_formed = c.in_ok-plans.ensures.well_formed (subst (λ (m : Map). is_well_formed m ≡ true) (sym c.in_ok-target.ensures) c.map_is_well_formed.ensures);
}
