use Rattle.std.proofs.Common.{◌≡◌, true, sym, subst}
use Rattle.cat_model.specs.Maps.{Map, after_changes}
use Rattle.cat_model.specs.Namespaces.{is_well_formed}
use Rattle.cat_decisions.proofs.Drafted.{one_plan}
use Rattle.cat_decisions.proofs.merge.plan_from.Goals as goal

pub returns-clause-plans : goal.returns-clause-plans
returns-clause-plans c =
    one_plan c.args.catalogue.now c.args.head.now c.in_ok-plan.plan
    (subst (λ (m : Map). (c.in_ok-plan.plan).map ≡ after_changes (c.in_ok-plan.plan).ops m) c.in_ok-target.ensures c.in_ok-plan.ensures.after)
    (c.in_ok-plan.ensures.well_formed (subst (λ (m : Map). is_well_formed m ≡ true) (sym c.in_ok-target.ensures) c.map_is_well_formed.ensures))
