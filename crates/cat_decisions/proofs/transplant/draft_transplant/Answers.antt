use Rattle.std.proofs.Common.{List, map, refl, sym, ap, subst, ◌∙◌}
use Rattle.cat_model.specs.Chain.{entries}
use Rattle.cat_model.specs.Transplants.{plan_each}
use Rattle.cat_merge.specs.declared.transplant.Step.{Step}
use Rattle.cat_merge.specs.Planned.{AreTouched, step_of}
use Rattle.cat_decisions.proofs.Transplanted.{transplant_drafted}
use Rattle.cat_decisions.proofs.transplant.draft_transplant.Goals as goal

pub plan_onto-requires : goal.plan_onto-requires
plan_onto-requires c = record { touched = subst (λ (l : List Step). AreTouched l) (sym c.as_slice.ensures.value) c.in_ok-steps.ensures.touched }

pub returns : goal.returns
returns c =
    let state = c.args.catalogue.now in
    let t = c.args.transplant.now in
    let exact = c.in_ok-plans.ensures.exact ∙ ap (λ (l : List Step). plan_each t.modes (entries state.commits (c.args.branch.now).head) (map step_of l)) c.as_slice.ensures.value in
    transplant_drafted state t c.args.branch.now c.as_slice-hashes.result.now c.in_ok-steps.steps.items c.in_ok-metas.metas.items c.in_ok-plans.plans.items _ c.requires.known
    c.as_slice-hashes.ensures c.in_ok-steps.ensures.exact c.in_ok-metas.ensures exact c.in_ok-plans.ensures.plans refl c.in_ok-planned.ensures refl c.in_ok-logged_transplant.ensures
