-- Plans of changes in turn.
use Rattle.std.proofs.Common.{◌≡◌, ℕ, ◌+◌, ◌-◌, ◌<◌, List, [], ◌∷◌, ◌++◌, length, get_or, drop, map, flat_map, Some, Bool, true, false, refl, sym, ap, subst, ◌∙◌, append_assoc, arith}
use Rattle.std.specs.List.{list_all, slice_get}
use Rattle.std.proofs.lemmas.List.{drop_more, map-append}
use Rattle.std.proofs.lemmas.List.Folds.{list_all_at}
use Rattle.std.proofs.lemmas.Option.{same_Some}
use Rattle.cat_names.specs.Fields.{Key}
use Rattle.cat_model.specs.declared.conflict.Conflict.{Conflict}
use Rattle.cat_model.specs.declared.entry.Entry.{Entry}
use Rattle.cat_model.specs.declared.merging.Modes.{Modes}
use Rattle.cat_model.specs.Maps.{Map, after_changes}
use Rattle.cat_model.specs.Merges.{entries_set}
use Rattle.cat_model.specs.Namespaces.{is_well_formed}
use Rattle.cat_model.specs.Plan as definition
use Rattle.cat_model.specs.Transplants.{plan_each}
use Rattle.cat_keymap.specs.KeyOrder.{both_true}
use Rattle.cat_merge.specs.declared.plan.Plan.{Plan}
use Rattle.cat_merge.specs.declared.transplant.Step.{Step}
use Rattle.cat_merge.specs.Planned.{AreUpon, map_after, planned, step_of}

-- ---- the map that plans leave

last_map : (before : Map) (p : Plan) (plans : List Plan) (q : Plan) → slice_get (p ∷ plans) (length plans) ≡ Some q → map_after before (p ∷ plans) ≡ q.map
last_map before p [] q e = ap (λ (x : Plan). x.map) (same_Some p q e)
last_map before p (r ∷ plans) q e = last_map p.map r plans q e

pub map_of_last : (before : Map) (plans : List Plan) (q : Plan) → slice_get plans (length plans - 1) ≡ Some q → map_after before plans ≡ q.map
map_of_last before [] q e = absurd cc
map_of_last before (p ∷ plans) q e =
    let l : length (p ∷ plans) - 1 ≡ length plans = omega arith in
    last_map before p plans q (subst (λ (n : ℕ). slice_get (p ∷ plans) n ≡ Some q) l e)

after_more : (before : Map) (plans : List Plan) (p : Plan) → map_after before (plans ++ p ∷ []) ≡ p.map
after_more before [] p = refl
after_more before (q ∷ plans) p = after_more q.map plans p

-- ---- what holds of each plan

abbrev pub AllPass : (Entry → Bool) → Map → Type 0
AllPass passes m = list_all (λ (x : Key × Entry). passes x.1) m ≡ true

abbrev pub SourcesPass : (Entry → Bool) → List Step → Type 0
SourcesPass passes steps = list_all (λ (s : Step). list_all (λ (x : Key × Entry). passes x.1) s.source) steps ≡ true

-- what holds of a plan on a map, where sources are among those of steps
pub record Fits (steps : List Step) (before : Map) (p : Plan) : Type 0 where
  pub after : p.map ≡ after_changes p.ops before
  pub well_formed : is_well_formed before ≡ true → p.conflicts ≡ [] → is_well_formed p.map ≡ true
  pub entries : (passes : Entry → Bool) → SourcesPass passes steps → AllPass passes before → AllPass passes p.map
  pub set : (passes : Entry → Bool) → SourcesPass passes steps → AllPass passes (entries_set p.ops)

-- each is so on the map that those before it leave
abbrev pub AllFit : List Step → Map → List Plan → Type 0
AllFit steps before [] = Unit {0}
AllFit steps before (p ∷ plans) = Fits steps before p × AllFit steps p.map plans

pub fit_more : (steps : List Step) (before : Map) (plans : List Plan) (p : Plan) → AllFit steps before plans → Fits steps (map_after before plans) p → AllFit steps before (plans ++ p ∷ [])
fit_more steps before [] p are fits = (fits, tt)
fit_more steps before (q ∷ plans) p are fits = (are.0, fit_more steps q.map plans p are.1 fits)

pub are_upon : (steps : List Step) (before : Map) (plans : List Plan) → AllFit steps before plans → AreUpon before plans
are_upon steps before [] are = tt
are_upon steps before (p ∷ plans) are = ((are.0).after, are_upon steps p.map plans are.1)

none_of_both : (xs ys : List Conflict) → xs ++ ys ≡ [] → (xs ≡ []) × (ys ≡ [])
none_of_both [] ys e = (refl, e)
none_of_both (x ∷ xs) ys e = absurd cc

pub are_well_formed : (steps : List Step) (before : Map) (plans : List Plan) → AllFit steps before plans → is_well_formed before ≡ true → flat_map (λ (p : Plan). p.conflicts) plans ≡ [] → list_all (λ (p : Plan). is_well_formed p.map) plans ≡ true
are_well_formed steps before [] are well none = refl
are_well_formed steps before (p ∷ plans) are well none =
    let parts = none_of_both p.conflicts (flat_map (λ (p : Plan). p.conflicts) plans) none in
    let here = (are.0).well_formed well parts.0 in
    both_true _ _ here (are_well_formed steps p.map plans are.1 here parts.1)

pub entries_pass : (passes : Entry → Bool) (steps : List Step) (before : Map) (plans : List Plan) → AllFit steps before plans → SourcesPass passes steps → AllPass passes before → list_all (λ (p : Plan). list_all (λ (x : Key × Entry). passes x.1) p.map) plans ≡ true
entries_pass passes steps before [] are sources all = refl
entries_pass passes steps before (p ∷ plans) are sources all =
    let here = (are.0).entries passes sources all in
    both_true _ _ here (entries_pass passes steps p.map plans are.1 sources here)

pub sets_pass : (passes : Entry → Bool) (steps : List Step) (before : Map) (plans : List Plan) → AllFit steps before plans → SourcesPass passes steps → list_all (λ (p : Plan). list_all (λ (x : Key × Entry). passes x.1) (entries_set p.ops)) plans ≡ true
sets_pass passes steps before [] are sources = refl
sets_pass passes steps before (p ∷ plans) are sources = both_true _ _ ((are.0).set passes sources) (sets_pass passes steps p.map plans are.1 sources)

-- ---- one plan more

not_false : (b : Bool) → (b ≡ false → ⊥) → b ≡ true
not_false true f = refl
not_false false f = absurd (f refl)

pub source_passes : (passes : Entry → Bool) (steps : List Step) (i : ℕ) (s : Step) → i < length steps → s ≡ get_or steps i s → SourcesPass passes steps → AllPass passes s.source
source_passes passes steps i s lt is all =
    let each : Step → Bool = λ (x : Step). list_all (λ (y : Key × Entry). passes y.1) x.source in
    not_false (each s) (λ fails. true_false (sym all ∙ list_all_at each steps i s lt (sym (ap each is) ∙ fails)))
  where
    true_false : true ≡ false → ⊥
    true_false e = cc

module _ (steps : List Step) (target : Map) (modes : Modes) where
  -- the plans that were made, then those of the steps that are left
  abbrev pub Left : ℕ → List Plan → Type 0
  Left i plans = map planned plans ++ plan_each modes (map_after target plans) (map step_of (drop i steps)) ≡ plan_each modes target (map step_of steps)

  pub one_more : (i : ℕ) (s : Step) (plans : List Plan) (p : Plan) → i < length steps → s ≡ get_or steps i s → planned p ≡ definition.plan s.base s.source (map_after target plans) modes → Left i plans → Left (i + 1) (plans ++ p ∷ [])
  one_more i s plans p lt is made left =
      let before = map_after target plans in
      let others : List (Map × Map) = map step_of (drop (i + 1) steps) in
      let rest : List definition.Plan = plan_each modes p.map others in
      let d : drop i steps ≡ s ∷ drop (i + 1) steps = drop_more steps i s lt ∙ ap (λ (x : Step). x ∷ drop (i + 1) steps) (sym is) in
      let here : plan_each modes before (map step_of (drop i steps)) ≡ planned p ∷ rest =
      ap (λ (l : List Step). plan_each modes before (map step_of l)) d ∙ ap (λ (q : definition.Plan). q ∷ plan_each modes q.map others) (sym made) in
      let front : map planned (plans ++ p ∷ []) ++ rest ≡ map planned plans ++ planned p ∷ rest =
      ap (λ (l : List definition.Plan). l ++ rest) (map-append planned plans (p ∷ [])) ∙ append_assoc (map planned plans) (planned p ∷ []) rest in
      ap (λ (m : Map). map planned (plans ++ p ∷ []) ++ plan_each modes m others) (after_more target plans p) ∙ front ∙ ap (λ (l : List definition.Plan). map planned plans ++ l) (sym here) ∙ left
