-- Lists of plans, as the definitions have them.
use Rattle.std.proofs.Common.{◌≡◌, suc, List, [], ◌∷◌, ◌++◌, length, map, flat_map, Bool, true, false, ◌||◌, cond, refl, ap}
use Rattle.std.specs.List.{list_any}
use Rattle.cat_model.specs.Merges as merges
use Rattle.cat_merge.specs.declared.plan.Planned.{Planned}
use Rattle.cat_merge.specs.Planned.{as_planned}
use Rattle.cat_decisions.specs.Drafts.{all_conflicts_in, all_details_in, all_planned, all_set_in, changing, has_changes}

pub flat_mapped : {A B C : Type 0} (f : B → List C) (g : A → B) (xs : List A) → flat_map f (map g xs) ≡ flat_map (λ x. f (g x)) xs
flat_mapped f g [] = refl
flat_mapped f g (x ∷ xs) = ap (λ l. f (g x) ++ l) (flat_mapped f g xs)

pub sets_are : (planned : List Planned) → merges.all_set (all_planned planned) ≡ all_set_in planned
sets_are planned = flat_mapped (λ (p : merges.Planned). merges.entries_set p.plan.ops) as_planned planned

pub details_are : (planned : List Planned) → merges.all_details (all_planned planned) ≡ all_details_in planned
details_are planned = flat_mapped (λ (p : merges.Planned). p.plan.details) as_planned planned

pub conflicts_are : (planned : List Planned) → merges.all_conflicts (all_planned planned) ≡ all_conflicts_in planned
conflicts_are planned = flat_mapped (λ (p : merges.Planned). p.plan.conflicts) as_planned planned

made_by : (b : Bool) (p : Planned) (rest : List merges.Planned) (kept : List Planned) → rest ≡ all_planned kept → cond b (as_planned p ∷ rest) rest ≡ all_planned (cond b (p ∷ kept) kept)
made_by true p rest kept e = ap (λ l. as_planned p ∷ l) e
made_by false p rest kept e = e

pub made_are : (planned : List Planned) → merges.commits_made (all_planned planned) ≡ all_planned (changing planned)
made_are [] = refl
made_are (p ∷ planned) = made_by (has_changes p) p (merges.commits_made (all_planned planned)) (changing planned) (made_are planned)

pub length_mapped : {A B : Type 0} (f : A → B) (xs : List A) → length (map f xs) ≡ length xs
length_mapped f [] = refl
length_mapped f (x ∷ xs) = ap (λ n. suc n) (length_mapped f xs)

-- there are some
abbrev pub is_filled : {A : Type 0} → List A → Bool
is_filled [] = false
is_filled (x ∷ xs) = true

any_by : (b : Bool) (p : Planned) (kept : List Planned) (rest : Bool) → rest ≡ is_filled kept → (b || rest) ≡ is_filled (cond b (p ∷ kept) kept)
any_by true p kept rest e = refl
any_by false p kept rest e = e

pub any_is : (planned : List Planned) → list_any (λ p. merges.has_changes p.plan.ops) (all_planned planned) ≡ is_filled (changing planned)
any_is [] = refl
any_is (p ∷ planned) = any_by (has_changes p) p (changing planned) _ (any_is planned)
