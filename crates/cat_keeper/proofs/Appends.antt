-- A list of payloads with one more.
use Rattle.std.proofs.Common.{◌≡◌, ◌⊎◌, inl, inr, ⊎_elim, ◌≤◌, ◌<◌, ◌+◌, ℕ, Bool, true, false, cond, ltb, List, [], ◌∷◌, ◌++◌, length, take, Option, Some, refl, ◌∙◌, ap, subst, arith, length-append}
use Rattle.std.proofs.lemmas.Bool.{ltb-true, cases_eq}
use Rattle.std.proofs.lemmas.List.{take_all, take-append-le}
use Rattle.cat_keeper.specs.Keeping.{WithOrWithout}
use Rattle.cat_keeper.specs.Listed.{left_of}
use Rattle.cat_io.specs.Crashes.{LeavesOnly}

-- where there is room for a payload that isn't empty, there is a place in the list
pub place_for : (n len most room : ℕ) → n ≤ cond (ltb len most) room 0 → 0 < n → len < most
place_for n len most room le some = by_test (ltb len most) refl
  where
    by_test : (b : Bool) → ltb len most ≡ b → len < most
    by_test true is = ltb-true len most is
    by_test false is = let none : n ≤ 0 = subst (λ t. n ≤ cond t room 0) is le in absurd (omega (arith, none, some))

-- a front of the longer list is one of the shorter, or all
front_or_all : (ps : List (List ℕ)) (p : List ℕ) (k : ℕ) (c : Option (List (List ℕ))) → k ≤ length (ps ++ p ∷ []) → c ≡ Some (take k (ps ++ p ∷ []))
    → ((k ≤ length ps) × (c ≡ Some (take k ps))) ⊎ (c ≡ Some (ps ++ p ∷ []))
front_or_all ps p k c le is =
    let size : length (ps ++ p ∷ []) ≡ length ps + 1 = length-append ps (p ∷ []) in
    elim (cases_eq k (length ps + 1)) [
      | inl last ↦ inr (is ∙ ap (λ (l : List (List ℕ)). Some l) (take_all k (ps ++ p ∷ []) (omega (arith, size, last))))
      | inr other ↦ let few : k ≤ length ps = omega (arith, size, le, other) in inl (few, is ∙ ap (λ (l : List (List ℕ)). Some l) (take-append-le k ps (p ∷ []) few))
    ]

module _ {K : Type 0} (payloads : K → List (List ℕ)) (old new : K) (p : List ℕ) (grown : payloads new ≡ payloads old ++ p ∷ []) where
  before : (t : ℕ) (c : Option (List (List ℕ))) → left_of (payloads new) t c → left_of (payloads old) t c ⊎ (c ≡ Some (payloads old ++ p ∷ []))
  before t c left =
      let here = subst (λ l. left_of l t c) grown left in
      ⊎_elim (λ front. inl (here.0, here.1, front.0, front.1)) (λ all. inr all) (front_or_all (payloads old) p here.0 c here.2 here.3)

  pub grows : LeavesOnly (λ k. length (payloads k)) (λ k t c. left_of (payloads k) t c) old new (WithOrWithout (payloads old) p)
  grows = record {
    later = omega (arith, ap length grown, length-append (payloads old) (p ∷ []));
    each = λ c left. ⊎_elim
        (λ was. inl (was.3 ∙ ap (λ (l : List (List ℕ)). Some l) (take_all was.0 (payloads old) (omega (arith, was.1)))))
        (λ all. inr all)
        (before (length (payloads old)) c left);
    before = λ t c le left. ⊎_elim (λ was. inl was) (λ all. inr (inr all)) (before t c left);
  }
