-- An element comes twice in a list exactly where, once sorted, two neighbours are the same.
use Rattle.std.proofs.Common.{◌≡◌, ℕ, suc, ◌+◌, ◌≤◌, List, [], ◌∷◌, get_or, map, Option, Some, None, Bool, true, false, ◌&&◌, ◌||◌, cond, refl, sym, ap, subst, ◌∙◌, arith}
use Rattle.std.specs.Prelude.{not, sum_by}
use Rattle.std.specs.List.{list_any}
use Rattle.std.specs.List.Sorted.{IsPermutation, IsSortedByKey}
use Rattle.std.specs.Cmp.{IsTotalOrder, tied_itself, alike_right, both_ways}
use Rattle.std.specs.Ordering.{is_lt, is_eq, ordering_reverse}
use Rattle.std.specs.declared.cmp.Ordering.{Ordering}
use Rattle.std.specs.declared.cmp.Ordering.TheVariants.{Less, Equal, Greater}
use Rattle.std.proofs.lemmas.List.Sums.{sum_by-cons}
use Rattle.std.proofs.lemmas.List.Sorted.{IsPermutation-map, sum_by-IsPermutation}
use Rattle.cat_codes.specs.Code.{follows, keys_ascend}
use Rattle.cat_names.specs.declared.hash.ContentId.{ContentId}
use Rattle.cat_model.specs.declared.op.Op.{Op}
use Rattle.cat_model.specs.Distinct.{are_distinct}
use Rattle.cat_model.specs.Judge.{op_key}
use Rattle.cat_model.specs.Same.{same_key, same_id}
use Rattle.cat_model.specs.WellMade.{ids_differ}
use Rattle.cat_keymap.specs.KeyOrder.{less_is, equal_is, split3, both_true, and_true}
use Rattle.cat_keymap.specs.Ordered.{no_fall, climbs}
use Rattle.cat_keymap.specs.Unlike.{unlike}

not_true : (b : Bool) → not b ≡ true → b ≡ false
not_true false e = refl
not_true true e = absurd cc

neither : (a b : Bool) → (a || b) ≡ false → (a ≡ false) × (b ≡ false)
neither false b e = (refl, e)
neither true b e = absurd cc

by_test : {P : Type 0} (b : Bool) → (b ≡ true → P) → (b ≡ false → P) → P
by_test true f g = f refl
by_test false f g = g refl

-- ---- how many elements are like one

module _ {K : Type 0} (cmp : K → K → Ordering) (total : IsTotalOrder cmp) where
  has : K → K → ℕ
  has k x = cond (is_eq (cmp x k)) 1 0

  count : K → List K → ℕ
  count k xs = sum_by (has k) xs

  count_more : (k x : K) (xs : List K) → count k (x ∷ xs) ≡ has k x + count k xs
  unfolding count
  count_more k x xs = sum_by-cons (has k) x xs

  count_none : (k : K) → count k [] ≡ 0
  unfolding count
  count_none k = refl

  has_by : (k x : K) (b : Bool) → is_eq (cmp x k) ≡ b → has k x ≡ cond b 1 0
  unfolding has
  has_by k x b e = ap (λ (b : Bool). cond b 1 0) e

  count_permuted : (k : K) (xs ys : List K) → IsPermutation xs ys → count k ys ≡ count k xs
  unfolding count
  count_permuted k xs ys p = sum_by-IsPermutation (has k) xs ys p

  count_alike : (x k : K) → cmp x k ≡ Equal → (xs : List K) → count x xs ≡ count k xs
  unfolding count has
  count_alike x k e xs = λ i. sum_by (λ o. cond (is_eq (alike_right total x k o e i)) 1 0) xs

  -- none is like it, or some are
  none_has : (k : K) (xs : List K) → list_any (λ x. is_eq (cmp x k)) xs ≡ false → count k xs ≡ 0
  none_has k [] e = count_none k
  none_has k (x ∷ xs) e =
      let parts = neither (is_eq (cmp x k)) (list_any (λ x. is_eq (cmp x k)) xs) e in
      let here : has k x ≡ 0 = has_by k x false parts.0 in
      let later : count k xs ≡ 0 = none_has k xs parts.1 in
      let all = count_more k x xs in
      omega (arith, all, here, later)

  some_has : (k : K) (xs : List K) → list_any (λ x. is_eq (cmp x k)) xs ≡ true → 1 ≤ count k xs
  some_has k [] e = absurd cc
  some_has k (x ∷ xs) e =
      let all = count_more k x xs in
      by_test (is_eq (cmp x k))
      (λ h. let here : has k x ≡ 1 = has_by k x true h in omega (arith, all, here))
      (λ h. let left : list_any (λ x. is_eq (cmp x k)) xs ≡ true = sym (ap (λ (b : Bool). b || list_any (λ x. is_eq (cmp x k)) xs) h) ∙ e in
      let later = some_has k xs left in
      omega (arith, all, later))

  itself : (x : K) (xs : List K) → count x (x ∷ xs) ≡ 1 + count x xs
  itself x xs =
      let all = count_more x x xs in
      let here : has x x ≡ 1 = has_by x x true (ap is_eq (tied_itself total x)) in
      omega (arith, all, here)

  -- where no element comes twice, at most one is like any
  few : (xs : List K) → unlike (λ a b. is_eq (cmp a b)) xs ≡ true → (k : K) → count k xs ≤ 1
  few [] once k = let none = count_none k in omega (arith, none)
  few (x ∷ xs) once k =
      let parts = and_true (not (list_any (λ o. is_eq (cmp o x)) xs)) (unlike (λ a b. is_eq (cmp a b)) xs) once in
      let all = count_more k x xs in
      let some = few xs parts.1 k in
      by_test (is_eq (cmp x k))
      (λ h. let here : has k x ≡ 1 = has_by k x true h in
      let same = count_alike x k (equal_is _ h) xs in
      let later = none_has x xs (not_true _ parts.0) in
      omega (arith, all, here, same, later))
      (λ h. let here : has k x ≡ 0 = has_by k x false h in omega (arith, all, here, some))

  -- and the other way round
  from_few : (xs : List K) → ((k : K) → count k xs ≤ 1) → unlike (λ a b. is_eq (cmp a b)) xs ≡ true
  from_few [] most = refl
  from_few (x ∷ xs) most =
      let rest = from_few xs (λ k. (let all = count_more k x xs in let few = most k in omega (arith, all, few))) in
      by_test (list_any (λ o. is_eq (cmp o x)) xs)
      (λ h. let some = some_has x xs h in let all = itself x xs in let few = most x in absurd (omega (arith, some, all, few)))
      (λ h. both_true _ _ (ap not h) rest)

  -- ---- ascending lists

  none_above : (k y : K) (xs : List K) → is_lt (cmp y k) ≡ false → keys_ascend cmp (Some y) xs ≡ true → count k xs ≡ 0
  none_above k y [] h up = count_none k
  none_above k y (x ∷ xs) h up =
      let t = and_true (follows cmp (Some y) x) (keys_ascend cmp (Some x) xs) up in
      let later : cmp x k ≡ Greater = above (less_is _ t.0) in
      let here : has k x ≡ 0 = has_by k x false (ap is_eq later) in
      let all = count_more k x xs in
      let rest = none_above k x xs (ap is_lt later) t.1 in
      omega (arith, all, here, rest)
    where
      above : cmp y x ≡ Less → cmp x k ≡ Greater
      above lt = split3 (cmp y k)
          (λ o. let no : is_lt (cmp y k) ≡ true = ap is_lt o in absurd cc)
          (λ o. total.antisymm x k ∙ ap ordering_reverse (sym (total.congr y k x o) ∙ lt))
          (λ o. let back : cmp k y ≡ Less = total.antisymm k y ∙ ap ordering_reverse o in total.antisymm x k ∙ ap ordering_reverse (total.trans k y x back lt))

  ascending_few : (last : Option K) (xs : List K) → keys_ascend cmp last xs ≡ true → (k : K) → count k xs ≤ 1
  ascending_few last [] up k = let none = count_none k in omega (arith, none)
  ascending_few last (x ∷ xs) up k =
      let t = and_true (follows cmp last x) (keys_ascend cmp (Some x) xs) up in
      let all = count_more k x xs in
      let some = ascending_few (Some x) xs t.1 k in
      by_test (is_eq (cmp x k))
      (λ h. let here : has k x ≡ 1 = has_by k x true h in
      let below : is_lt (cmp x k) ≡ false = ap is_lt (equal_is _ h) in
      let later = none_above k x xs below t.1 in
      omega (arith, all, here, later))
      (λ h. let here : has k x ≡ 0 = has_by k x false h in omega (arith, all, here, some))

  -- ---- sorted lists

  -- where at most one is like any, a list that doesn't fall ascends
  strict_from : (x : K) (xs : List K) → climbs cmp (Some x) xs ≡ true → ((k : K) → count k (x ∷ xs) ≤ 1) → keys_ascend cmp (Some x) xs ≡ true
  strict_from x [] up one = refl
  strict_from x (y ∷ ys) up one =
      let parts = and_true (no_fall cmp (Some x) y) (climbs cmp (Some y) ys) up in
      both_true _ _ (above parts.0) (strict_from y ys parts.1 (λ k. (let all = count_more k x (y ∷ ys) in let most = one k in omega (arith, all, most))))
    where
      above : no_fall cmp (Some x) y ≡ true → is_lt (cmp x y) ≡ true
      above n = split3 (cmp x y)
          (λ o. ap is_lt o)
          (λ o. let all = count_more y x (y ∷ ys) in
          let mine : has y x ≡ 1 = has_by y x true (ap is_eq o) in
          let more = itself y ys in
          let most = one y in
          absurd (omega (arith, all, mine, more, most)))
          (λ o. let back : is_lt (cmp y x) ≡ true = ap is_lt (total.antisymm y x ∙ ap ordering_reverse o) in
          let no : not (is_lt (cmp y x)) ≡ false = ap not back in absurd cc)

  strict : (xs : List K) → climbs cmp None xs ≡ true → ((k : K) → count k xs ≤ 1) → keys_ascend cmp None xs ≡ true
  strict [] up one = refl
  strict (x ∷ xs) up one = strict_from x xs up one

  module _ {A : Type 0} (f : A → K) where
    sorted_from : (x : A) (xs : List A) → IsSortedByKey f cmp (x ∷ xs) → climbs cmp (Some (f x)) (map f xs) ≡ true
    sorted_from x [] up = refl
    sorted_from x (y ∷ ys) up =
        let first : is_lt (cmp (f y) (f x)) ≡ false = up 0 x (omega arith) (omega arith) in
        both_true _ _ (ap not first) (sorted_from y ys (λ k d l h. later k d (up (suc k) d (omega arith) (omega arith))))
      where
        later : (k : ℕ) (d : A) → is_lt (cmp (f (get_or (x ∷ y ∷ ys) (suc k + 1) d)) (f (get_or (x ∷ y ∷ ys) (suc k) d))) ≡ false
            → is_lt (cmp (f (get_or (y ∷ ys) (k + 1) d)) (f (get_or (y ∷ ys) k d))) ≡ false
        later k d e = let n : suc k + 1 ≡ suc (k + 1) = omega arith in subst (λ (n : ℕ). is_lt (cmp (f (get_or (x ∷ y ∷ ys) n d)) (f (get_or (y ∷ ys) k d))) ≡ false) n e

    pub sorted_climbs : (xs : List A) → IsSortedByKey f cmp xs → climbs cmp None (map f xs) ≡ true
    sorted_climbs [] up = refl
    sorted_climbs (x ∷ xs) up = sorted_from x xs up

-- ---- by another test that tells the same

unlike_by : {K : Type 0} (s t : K → K → Bool) → ((x y : K) → s x y ≡ t x y) → (xs : List K) → unlike s xs ≡ unlike t xs
unlike_by s t e xs = λ i. unlike (λ x y. e x y i) xs

-- a list that doesn't fall ascends exactly where no element comes twice
pub climbing : {K : Type 0} (cmp : K → K → Ordering) → IsTotalOrder cmp → (same : K → K → Bool) → ((x y : K) → same x y ≡ is_eq (cmp x y))
    → (xs ys : List K) → IsPermutation xs ys → climbs cmp None ys ≡ true → keys_ascend cmp None ys ≡ unlike same xs
climbing {K} cmp total same ties xs ys p up =
    let tie : K → K → Bool = λ a b. is_eq (cmp a b) in
    let moved = λ (k : K). count_permuted cmp total k xs ys p in
    both_ways (keys_ascend cmp None ys) (unlike tie xs)
    (λ e. from_few cmp total xs (λ k. (let few = ascending_few cmp total None ys e k in let same = moved k in omega (arith, few, same))))
    (λ e. strict cmp total ys up (λ k. (let few = few cmp total xs e k in let same = moved k in omega (arith, few, same))))
    ∙ sym (unlike_by same tie ties xs)

-- and so does a sorted list
pub neighbours : {K : Type 0} (cmp : K → K → Ordering) → IsTotalOrder cmp → (same : K → K → Bool) → ((x y : K) → same x y ≡ is_eq (cmp x y))
    → {A : Type 0} (f : A → K) (xs ys : List A) → IsPermutation xs ys → IsSortedByKey f cmp ys → keys_ascend cmp None (map f ys) ≡ unlike same (map f xs)
neighbours cmp total same ties f xs ys p up = climbing cmp total same ties (map f xs) (map f ys) (IsPermutation-map f xs ys p) (sorted_climbs cmp total f ys up)

-- ---- keys of operations, and ids

any_key : (key : List (List ℕ)) (ops : List Op) → list_any (λ other. same_key other key) (map op_key ops) ≡ list_any (λ other. same_key (op_key other) key) ops
any_key key [] = refl
any_key key (op ∷ ops) = ap (λ (b : Bool). same_key (op_key op) key || b) (any_key key ops)

pub distinct_is : (ops : List Op) → unlike same_key (map op_key ops) ≡ are_distinct ops
distinct_is [] = refl
distinct_is (op ∷ ops) = λ i. not (any_key (op_key op) ops i) && distinct_is ops i

pub differ_is : (ids : List ContentId) → unlike same_id ids ≡ ids_differ ids
differ_is [] = refl
differ_is (id ∷ ids) = ap (λ (b : Bool). not (list_any (λ other. same_id other id) ids) && b) (differ_is ids)
