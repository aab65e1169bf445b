-- Changes made from the lowest key on.
use Rattle.std.proofs.Common.{◌≡◌, ℕ, suc, ◌+◌, ◌*◌, ◌<◌, ◌≤◌, List, [], ◌∷◌, ◌++◌, length, get_or, take, drop, Option, Some, None, true, false, refl, sym, ap, subst, ◌∙◌, arith, append_assoc}
use Rattle.std.proofs.lemmas.List.{append-nil, drop_all}
use Rattle.std.specs.Ordering.{is_eq}
use Rattle.std.specs.Cmp.{IsTotalOrder}
use Rattle.std.specs.declared.cmp.Ordering.{Ordering}
use Rattle.std.specs.declared.cmp.Ordering.TheVariants.{Less, Equal, Greater}
use Rattle.cat_codes.specs.Code.{ascends}
use Rattle.cat_ordered.specs.Maps.{IsMap, after_change, after_changes, kept, present, placed}
use Rattle.cat_ordered.specs.Places.{place_of, below, above}
use Rattle.cat_ordered.proofs.Order.{split3, head_tail, ascends_any, ascends_drop}
use Rattle.cat_ordered.proofs.Found.{AtPlace, NotAtPlace, place_within, past_end}
use Rattle.cat_ordered.proofs.Lists.{drop_at}
use Rattle.cat_ordered.proofs.Splits.{AllUnder, past_all}

-- ---- what a change leaves of its key

module _ {K V : Type 0} where
  pub left_none : (change : K × Option V) → kept change ≡ None → present change ≡ []
  left_none (key, None) e = refl
  left_none (key, Some value) e = absurd cc

  pub left_one : (change : K × Option V) (pair : K × V) → kept change ≡ Some pair → present change ≡ pair ∷ []
  left_one (key, None) pair e = absurd cc
  left_one (key, Some value) pair e = let same : (key, value) ≡ pair = cc in ap (λ (p : K × V). p ∷ []) same

  -- nothing is put
  pub puts_none : (out : List (K × V)) (change : K × Option V) (pair : Option (K × V)) → pair ≡ kept change → pair ≡ None → out ≡ out ++ present change
  puts_none out change pair e none = sym (append-nil out) ∙ ap (λ (m : List (K × V)). out ++ m) (sym (left_none change (sym e ∙ none)))

  -- or one pair
  pub puts_one : (out new : List (K × V)) (change : K × Option V) (pair : Option (K × V)) (x : K × V) → pair ≡ kept change → pair ≡ Some x → new ≡ out ++ x ∷ [] → new ≡ out ++ present change
  puts_one out new change pair x e some n = n ∙ ap (λ (m : List (K × V)). out ++ m) (sym (left_one change x (sym e ∙ some)))

module _ {K V : Type 0} (cmp : K → K → Ordering) (total : IsTotalOrder cmp) where
  -- ---- the parts of a map at a key

  pub take_place : (map : List (K × V)) (key : K) → take (place_of cmp map key) map ≡ below cmp map key
  take_place [] key = refl
  take_place (x ∷ map) key = split3 (cmp x.0 key) (λ e. rw e (ap (λ (m : List (K × V)). x ∷ m) (take_place map key))) (λ e. rw e refl) (λ e. rw e refl)

  pub drop_same : (map : List (K × V)) (key : K) (x : K × V) → AtPlace cmp total map key x → is_eq (cmp x.0 key) ≡ true → drop (place_of cmp map key + 1) map ≡ above cmp map key
  drop_same [] key x at same = absurd (omega (arith, at.within))
  drop_same (y ∷ map) key x at same = split3 (cmp y.0 key)
      (λ e. let k : suc (place_of cmp map key) + 1 ≡ suc (place_of cmp map key + 1) = omega arith in
      let lt = rw e at at.within in
      rw (e, k) (drop_same map key x (record { within = omega arith; read = rw e at at.read }) same))
      (λ e. rw e refl)
      (λ e. let first : x ≡ y = rw e at at.read in let other : is_eq (cmp x.0 key) ≡ false = rw (first, e) refl in absurd cc)

  pub drop_other : (map : List (K × V)) (key : K) → NotAtPlace cmp total map key → drop (place_of cmp map key) map ≡ above cmp map key
  drop_other [] key other = refl
  drop_other (y ∷ map) key other = split3 (cmp y.0 key)
      (λ e. rw e (drop_other map key (λ x at. other x (record { within = rw e (omega (arith, at.within)); read = rw e at.read }))))
      (λ e. let no = other y (record { within = rw e (omega arith); read = rw e refl }) in let yes : is_eq (cmp y.0 key) ≡ true = rw e refl in absurd cc)
      (λ e. rw e refl)

  pub parts : (map : List (K × V)) (change : K × Option V) → after_change cmp change map ≡ below cmp map change.0 ++ (present change ++ above cmp map change.0)
  parts [] change = sym (append-nil (present change))
  parts (x ∷ map) change = split3 (cmp x.0 change.0)
      (λ e. rw e (ap (λ (m : List (K × V)). x ∷ m) (parts map change)))
      (λ e. rw e refl)
      (λ e. rw e refl)

  -- what stands below a key, and what a change leaves of it, is under what is above it
  under_present : (k : K) (value : Option V) → AllUnder cmp total k (present (k, value))
  under_present k None = tt
  under_present k (Some value) = ((λ q lt. lt), tt)

  under_front : (map : List (K × V)) (k : K) (value : Option V) → AllUnder cmp total k (below cmp map k ++ present (k, value))
  under_front [] k value = under_present k value
  under_front (x ∷ map) k value = split3 (cmp x.0 k)
      (λ e. rw e ((λ q lt. total.trans x.0 k q e lt), under_front map k value))
      (λ e. rw e (under_present k value))
      (λ e. rw e (under_present k value))

  -- the first change is made up to its key, and the others above it
  taken : (change : K × Option V) (cs : List (K × Option V)) (map : List (K × V)) → ascends cmp None (change ∷ cs) ≡ true
      → after_changes cmp (change ∷ cs) map ≡ (below cmp map change.0 ++ present change) ++ after_changes cmp cs (above cmp map change.0)
  taken change cs map up =
      let front = below cmp map change.0 ++ present change in
      let whole : after_change cmp change map ≡ front ++ above cmp map change.0 =
      parts map change ∙ sym (append_assoc (below cmp map change.0) (present change) (above cmp map change.0)) in
      ap (after_changes cmp cs) whole ∙ past_all cmp total cs change.0 front (above cmp map change.0) (under_front map change.0 change.1) (head_tail cmp total None change cs up).1

  -- ---- as the code goes

  pub drop_past : (map : List (K × V)) (key : K) (i : ℕ) → i ≡ place_of cmp map key → length map ≤ i → drop (length map) map ≡ above cmp map key
  drop_past map key i here le =
      let n : length map ≡ place_of cmp map key = let w = place_within cmp total map key in omega arith in
      ap (λ (k : ℕ). drop k map) n ∙ drop_other map key (past_end cmp total map key i here le)

  -- one change more is made
  pub goes_on : (out new : List (K × V)) (changes : List (K × Option V)) (i : ℕ) (change : K × Option V) (left rest : List (K × V)) (end : List (K × V)) → i < length changes → change ≡ get_or changes i change
      → ascends cmp None changes ≡ true → rest ≡ above cmp left change.0 → new ≡ out ++ (below cmp left change.0 ++ present change)
      → out ++ after_changes cmp (drop i changes) left ≡ end → new ++ after_changes cmp (drop (i + 1) changes) rest ≡ end
  goes_on out new changes i change left rest end lt e up r n so_far =
      let next : drop i changes ≡ change ∷ drop (i + 1) changes = drop_at changes i change lt e in
      let front = below cmp left change.0 ++ present change in
      let more : after_changes cmp (drop i changes) left ≡ front ++ after_changes cmp (drop (i + 1) changes) rest =
      rw (next, r) (taken change (drop (i + 1) changes) left (subst (λ (m : List (K × Option V)). ascends cmp None m ≡ true) next (ascends_drop cmp total i changes up))) in
      ap (λ (m : List (K × V)). m ++ after_changes cmp (drop (i + 1) changes) rest) n
      ∙ append_assoc out front (after_changes cmp (drop (i + 1) changes) rest) ∙ ap (λ (m : List (K × V)). out ++ m) (sym more) ∙ so_far

  -- what is above a key is a map
  pub IsMap-above : (map : List (K × V)) (key : K) → IsMap cmp map → IsMap cmp (above cmp map key)
  IsMap-above [] key up = refl
  IsMap-above (x ∷ map) key up =
      let rest = ascends_any cmp total x.0 map (head_tail cmp total None x map up).1 in
      split3 (cmp x.0 key) (λ e. rw e (IsMap-above map key rest)) (λ e. rw e rest) (λ e. rw e up)

  pub is_done : (out new : List (K × V)) (changes : List (K × Option V)) (i : ℕ) (left : List (K × V)) (end : List (K × V)) → length changes ≤ i → new ≡ out ++ left → out ++ after_changes cmp (drop i changes) left ≡ end → new ≡ end
  is_done out new changes i left end le n so_far =
      let none : drop i changes ≡ [] = drop_all i changes le in
      n ∙ (rw none at so_far)

  -- ---- how many entries there are

  change_adds : (change : K × Option V) (map : List (K × V)) → length (after_change cmp change map) ≤ length map + 1
  change_adds (key, None) [] = omega arith
  change_adds (key, Some value) [] = omega arith
  change_adds (key, value) (x ∷ map) = adds value (cmp x.0 key) (change_adds (key, value) map)
    where
      adds : (v : Option V) (o : Ordering) → length (after_change cmp (key, value) map) ≤ length map + 1 → length (placed o (key, v) x map (after_change cmp (key, value) map)) ≤ length (x ∷ map) + 1
      adds v Less rest = omega arith
      adds None Equal rest = omega arith
      adds (Some w) Equal rest = omega arith
      adds None Greater rest = omega arith
      adds (Some w) Greater rest = omega arith

  pub changes_add : (changes : List (K × Option V)) (map : List (K × V)) → length (after_changes cmp changes map) ≤ length map + length changes
  changes_add [] map = omega arith
  changes_add (c ∷ cs) map = omega (arith, changes_add cs (after_change cmp c map), change_adds c map)

  -- what a block copies
  pub block_rate : (changes : List (K × Option V)) (map pairs : List (K × V)) (n : ℕ) → n ≡ length pairs → pairs ≡ after_changes cmp changes map → length map ≤ 64 → 0 < length changes → n ≤ 65 * length changes
  block_rate changes map pairs n e p fits some = omega (arith, changes_add changes map, ap length p)
