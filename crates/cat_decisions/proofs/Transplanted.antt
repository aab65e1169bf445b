-- What commits changed, and the plans of it onto a head.
use Rattle.std.proofs.Common.{◌≡◌, List, length, map, None, true, sym, ap, subst, ◌∙◌}
use Rattle.sha2.specs.Sha256.{sha256}
use Rattle.cat_names.specs.declared.hash.Hash.{Hash}
use Rattle.cat_model.specs.declared.command.Transplant.{Transplant}
use Rattle.cat_model.specs.declared.commit.Meta.{Meta}
use Rattle.cat_model.specs.declared.reference.Reference.{Reference}
use Rattle.cat_model.specs.Chain.{entries}
use Rattle.cat_model.specs.Maps.{Map}
use Rattle.cat_model.specs.Plan as definition
use Rattle.cat_model.specs.State.{State, is_known}
use Rattle.cat_model.specs.Transplants.{change_made, commits_at, plan_each, transplant_planned, with_metas}
use Rattle.cat_merge.specs.declared.plan.Plan.{Plan}
use Rattle.cat_merge.specs.declared.plan.Planned.{Planned}
use Rattle.cat_merge.specs.declared.transplant.Step.{Step}
use Rattle.cat_merge.specs.Planned.{planned, step_of}
use Rattle.cat_decisions.specs.declared.drafts.Draft.{Draft}
use Rattle.cat_decisions.specs.Drafts.{AreDrafted, ArePlans, IsTransplantDraft, all_planned, asked_of, logged_transplant, meta_of, paired}
use Rattle.cat_decisions.proofs.Lists.{length_mapped}
use Rattle.cat_decisions.proofs.Paired.{merge_nothing, paired_are, plans_count, plans_paired}

-- the plans of a transplant, each with its commit's meta, are what the definitions plan
transplant_exact : (state : State) (t : Transplant) (head : Hash) (steps : List Step) (metas : List Meta) (plans : List Plan) → map step_of steps ≡ map (change_made state.commits) (commits_at state.commits t.hashes) → metas ≡ map meta_of (commits_at state.commits t.hashes)
    → map planned plans ≡ plan_each t.modes (entries state.commits head) (map step_of steps) → all_planned (paired metas plans) ≡ transplant_planned state t head
unfolding transplant_planned
transplant_exact state t head steps metas plans changes told exact =
    let chosen = commits_at state.commits t.hashes in
    ap (λ (m : List Meta). all_planned (paired m plans)) told ∙ paired_are chosen plans ∙ ap (λ (l : List definition.Plan). with_metas chosen l) exact
    ∙ ap (λ (l : List (Map × Map)). with_metas chosen (plan_each t.modes (entries state.commits head) l)) changes

-- there are as many plans as metas
as_many : (state : State) (t : Transplant) (head : Hash) (steps : List Step) (metas : List Meta) (plans : List Plan) → map step_of steps ≡ map (change_made state.commits) (commits_at state.commits t.hashes) → metas ≡ map meta_of (commits_at state.commits t.hashes)
    → map planned plans ≡ plan_each t.modes (entries state.commits head) (map step_of steps) → length plans ≡ length metas
as_many state t head steps metas plans changes told exact =
    let chosen = commits_at state.commits t.hashes in
    plans_count t.modes (entries state.commits head) (map step_of steps) plans exact ∙ ap length changes ∙ length_mapped (change_made state.commits) chosen ∙ sym (length_mapped meta_of chosen) ∙ sym (ap length told)

pairs_drafted : (state : State) (head : Hash) (metas : List Meta) (plans : List Plan) → is_known sha256 state head ≡ true → length plans ≡ length metas → ArePlans state head plans → AreDrafted state head (paired metas plans)
pairs_drafted state head metas plans known count are = record {
  known = known;
  merged = merge_nothing state.commits metas plans;
  plans = subst (λ (l : List Plan). ArePlans state head l) (sym (plans_paired metas plans count)) are;
}

drafted_at : (state : State) (t : Transplant) (branch : Reference) (steps : List Step) (metas : List Meta) (plans : List Plan) (d : Draft) → is_known sha256 state branch.head ≡ true
    → map step_of steps ≡ map (change_made state.commits) (commits_at state.commits t.hashes) → metas ≡ map meta_of (commits_at state.commits t.hashes) → map planned plans ≡ plan_each t.modes (entries state.commits branch.head) (map step_of steps) → ArePlans state branch.head plans
    → d.ancestor ≡ None → d.planned.items ≡ paired metas plans → asked_of d.asked ≡ record { dry_run = t.dry_run; conflicts_as_result = t.conflicts_as_result } → d.command ≡ logged_transplant t → IsTransplantDraft state t branch d
drafted_at state t branch steps metas plans d known changes told exact are none items asked command = record {
  ancestor = none;
  exact = ap all_planned items ∙ transplant_exact state t branch.head steps metas plans changes told exact;
  drafted = subst (λ (l : List Planned). AreDrafted state branch.head l) (sym items) (pairs_drafted state branch.head metas plans known (as_many state t branch.head steps metas plans changes told exact) are);
  asked = asked;
  command = command;
}

pub transplant_drafted : (state : State) (t : Transplant) (branch : Reference) (hashes : List Hash) (steps : List Step) (metas : List Meta) (plans : List Plan) (d : Draft) → is_known sha256 state branch.head ≡ true → hashes ≡ t.hashes
    → map step_of steps ≡ map (change_made state.commits) (commits_at state.commits hashes) → metas ≡ map meta_of (commits_at state.commits hashes) → map planned plans ≡ plan_each t.modes (entries state.commits branch.head) (map step_of steps) → ArePlans state branch.head plans
    → d.ancestor ≡ None → d.planned.items ≡ paired metas plans → asked_of d.asked ≡ record { dry_run = t.dry_run; conflicts_as_result = t.conflicts_as_result } → d.command ≡ logged_transplant t → IsTransplantDraft state t branch d
transplant_drafted state t branch hashes steps metas plans d known same changes told =
    drafted_at state t branch steps metas plans d known (changes ∙ ap (λ (l : List Hash). map (change_made state.commits) (commits_at state.commits l)) same) (told ∙ ap (λ (l : List Hash). map meta_of (commits_at state.commits l)) same)
