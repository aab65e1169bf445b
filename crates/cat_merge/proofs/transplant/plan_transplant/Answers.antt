use Rattle.std.proofs.Common.{◌≡◌, ◌∙◌, ap, subst, sym, arith}
use Rattle.cat_model.specs.Maps.{Map}
use Rattle.cat_model.specs.Plan as definition
use Rattle.cat_keymap.specs.Among.{Covers}
use Rattle.cat_merge.specs.declared.transplant.Step.{Step}
use Rattle.cat_merge.specs.Planned.{map_after}
use Rattle.cat_merge.proofs.InTurn.{Fits, are_upon, are_well_formed, entries_pass, fit_more, one_more, sets_pass, source_passes}
use Rattle.cat_merge.proofs.transplant.plan_transplant.Goals as goal

pub changed_among-requires : goal.changed_among-requires
changed_among-requires c =
    let steps = c.args.steps.now in
    let s = c.step-item.result in
    let covers : Covers s.touched s.base s.source = subst (λ (s : Step). Covers s.touched s.base s.source) (sym c.step-item.is) (c.requires c.loop-step.step-index s (omega arith)) in
    rw c.as_slice-touched.ensures covers

pub loop-step-preserved : goal.loop-step-preserved
loop-step-preserved c =
    let steps = c.args.steps.now in
    let target = c.args.target.now in
    let modes = c.args.modes.now in
    let plans = c.loop-step.plans.items in
    let i = c.loop-step.step-index in
    let s = c.step-item.result in
    let p = c.in_ok-plan.plan in
    let before : c.map_after-before.result.now ≡ map_after target plans = c.map_after-before.ensures ∙ ap (map_after target) c.as_slice.ensures.value in
    let fits : Fits steps c.map_after-before.result.now p = record {
      after = c.in_ok-plan.ensures.after;
      well_formed = c.in_ok-plan.ensures.well_formed;
      entries = λ passes sources. c.in_ok-plan.ensures.entries passes (source_passes passes steps i s (omega arith) c.step-item.is sources);
      set = λ passes sources. c.in_ok-plan.ensures.set passes (source_passes passes steps i s (omega arith) c.step-item.is sources);
    } in
    rw c.in_ok-push.ensures.items (record {
      left = one_more steps target modes i s plans p (omega arith) c.step-item.is (c.in_ok-plan.ensures.exact ∙ ap (λ (m : Map). definition.plan s.base s.source m modes) before) c.loop-step.invariant.left;
      fit = fit_more steps target plans p c.loop-step.invariant.fit (subst (λ (m : Map). Fits steps m p) before fits);
    })

pub returns-clause-after : goal.returns-clause-after
returns-clause-after c = are_upon c.args.steps.now c.args.target.now c.loop-step.plans.items c.loop-step.invariant.fit

pub returns-clause-well_formed : goal.returns-clause-well_formed
returns-clause-well_formed c = are_well_formed c.args.steps.now c.args.target.now c.loop-step.plans.items c.loop-step.invariant.fit

pub returns-clause-entries : goal.returns-clause-entries
returns-clause-entries c passes = entries_pass passes c.args.steps.now c.args.target.now c.loop-step.plans.items c.loop-step.invariant.fit

pub returns-clause-set : goal.returns-clause-set
returns-clause-set c passes = sets_pass passes c.args.steps.now c.args.target.now c.loop-step.plans.items c.loop-step.invariant.fit
