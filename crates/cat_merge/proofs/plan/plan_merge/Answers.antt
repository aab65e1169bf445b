use Rattle.std.proofs.Common.{◌∙◌, ap}
use Rattle.cat_model.specs.Plan.{plan, plan_of}
use Rattle.cat_merge.specs.Planned.{planned}
use Rattle.cat_merge.proofs.Kept.{ascending, stays}
use Rattle.cat_merge.specs.PassingLaws.{set_passes, map_passes}
use Rattle.std.proofs.lemmas.Result.{IfOk-weaker}
use Rattle.cat_merge.proofs.plan.plan_merge.Goals as goal

pub plan_keys-requires : goal.plan_keys-requires
plan_keys-requires c = ascending c.args.base.now c.args.source.now c.args.changed c.requires

pub returns-clause-exact : goal.returns-clause-exact
unfolding plan
returns-clause-exact c =
    IfOk-weaker c.plan_keys.result _ _ (λ p made. made ∙ ap (plan_of c.args.base.now c.args.source.now c.args.target.now c.args.modes.now) c.requires) c.plan_keys.ensures

pub returns-clause-well_formed : goal.returns-clause-well_formed
returns-clause-well_formed c well =
    IfOk-weaker c.plan_keys.result _ _
    (λ p made. stays c.args.base.now c.args.source.now c.args.target.now c.args.modes.now c.args.changed (planned p) (ascending c.args.base.now c.args.source.now c.args.changed c.requires) c.known.ensures made well) c.plan_keys.ensures

pub returns-clause-set : goal.returns-clause-set
returns-clause-set c passes all =
    IfOk-weaker c.plan_keys.result _ _
    (λ p made. set_passes passes c.args.base.now c.args.source.now c.args.target.now c.args.modes.now c.args.changed (planned p) made all) c.plan_keys.ensures

pub returns-clause-entries : goal.returns-clause-entries
returns-clause-entries c passes all others =
    IfOk-weaker c.plan_keys.result _ _
    (λ p made. map_passes passes c.args.base.now c.args.source.now c.args.target.now c.args.modes.now c.args.changed (planned p) made all others) c.plan_keys.ensures
