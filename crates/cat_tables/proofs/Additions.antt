-- Tables after many values more, put in the order of their hashes.
use Rattle.std.proofs.Common.{◌≡◌, ◌⊎◌, inl, inr, ℕ, zero, suc, ◌+◌, ◌<◌, ◌≤◌, List, [], ◌∷◌, ◌++◌, Option, Some, None, Bool, true, false, cond, is_none, length, get_or, reverse, map, flat_map, nat_eq, nat_lt, refl, sym, ap, subst, ◌∙◌, arith, append_assoc}
use Rattle.std.proofs.lemmas.Bool.Decides.{nat_tests}
use Rattle.std.proofs.lemmas.List.{reverse-append}
use Rattle.std.proofs.lemmas.List.Concat.{length-flat_map}
use Rattle.std.proofs.lemmas.List.Sorted.{IsPermutation-map, IsPermutation-reverse, IsPermutation-sym, All-permutation, sum_by-IsPermutation}
use Rattle.std.proofs.lemmas.Option.{none-some}
use Rattle.std.proofs.lemmas.Map.Keys.{IsDistinct-IsPermutation}
use Rattle.std.specs.List.{list_all, All, AllByRecursion, IsDistinct}
use Rattle.std.specs.List.Sorted.{IsPermutation, IsSortedByKey}
use Rattle.std.specs.Option.{SomeIff}
use Rattle.std.specs.Ordering.{is_eq, is_lt, ordering_reverse}
use Rattle.std.specs.declared.cmp.Ordering.{Ordering}
use Rattle.std.specs.declared.cmp.Ordering.TheVariants.{Less, Equal, Greater}
use Rattle.cat_codes.specs.Code.{follows, ascends}
use Rattle.cat_names.specs.declared.hash.Hash.{Hash}
use Rattle.cat_ordered.specs.Maps as ordered
use Rattle.cat_tables.specs.declared.table.Placed.{Placed}
use Rattle.cat_tables.specs.Arrivals.{at_place, arrived, puts, IsPlaced}
use Rattle.cat_tables.specs.HashOrder.{hash_cmp}
use Rattle.cat_tables.specs.ReferenceLaws.{both_true, and_true, split}
use Rattle.cat_tables.specs.Tables.{same_hash, value_of, are_distinct}
use Rattle.cat_tables.proofs.Arriving.{less_is, absent_parts, hash_total, ties, both_empty, put_more, at_other, at_own, none_at, arrived_alike, more_pass, below_more, found_more, absent_there}

-- two hashes compare equal
abbrev tied : Hash → Hash → Bool
tied a b = is_eq (hash_cmp b a)

flips : (a b : Hash) → tied a b ≡ tied b a
flips a b = ap is_eq (hash_total.antisymm b a) ∙ same (hash_cmp a b)
  where
    same : (o : Ordering) → is_eq (ordering_reverse o) ≡ is_eq o
    same Less = refl
    same Equal = refl
    same Greater = refl

pub sum_is : (P : Type 0) (o : Option ℕ) (k sum : ℕ) → SomeIff o P sum → o ≡ Some k → k ≡ sum
sum_is P None k sum told e = absurd (none-some k e)
sum_is P (Some n) k sum told e = let same : n ≡ k = cc in sym same ∙ told.1

-- ---- what a permutation of a list gives

module _ {B : Type 0} where
  empty_is : (l : List B) → length l ≡ 0 → l ≡ []
  empty_is [] e = refl
  empty_is (x ∷ l) e = absurd (omega (arith, e))

  few_of : (l k : List B) → l ≡ k → (k ≡ []) ⊎ ((x : B) × (k ≡ x ∷ [])) → length l ≤ 1
  few_of l k is (inl e) = let size = ap length (is ∙ e) in omega (arith, size)
  few_of l k is (inr (x, e)) = let size = ap length (is ∙ e) in omega (arith, size)

module _ {A B : Type 0} where
  long_alike : (g : A → List B) (xs ys : List A) → IsPermutation xs ys → length (flat_map g ys) ≡ length (flat_map g xs)
  long_alike g xs ys p = length-flat_map g ys ∙ sum_by-IsPermutation (λ x. length (g x)) xs ys p ∙ sym (length-flat_map g xs)

  -- an element gives x alone, or nothing
  abbrev Gives : (A → List B) → B → A → Type 0
  Gives g x c = (g c ≡ []) ⊎ (g c ≡ x ∷ [])

  all_give : (g : A → List B) (x : B) (xs : List A) → (flat_map g xs ≡ []) ⊎ (flat_map g xs ≡ x ∷ []) → All (Gives g x) xs
  all_give g x [] e = λ k d lt. absurd (omega (arith, lt))
  all_give g x (c ∷ xs) e = by (g c) refl e (all_give g x xs)
    where
      more : Gives g x c → All (Gives g x) xs → All (Gives g x) (c ∷ xs)
      more here rest zero d lt = here
      more here rest (suc k) d lt = rest k d (omega (arith, lt))

      by : (l : List B) → g c ≡ l → (l ++ flat_map g xs ≡ []) ⊎ (l ++ flat_map g xs ≡ x ∷ []) → ((flat_map g xs ≡ []) ⊎ (flat_map g xs ≡ x ∷ []) → All (Gives g x) xs) → All (Gives g x) (c ∷ xs)
      by [] is e rest = more (inl is) (rest e)
      by (y ∷ l) is (inl e) rest = absurd cc
      by (y ∷ l) is (inr e) rest =
          let tail : l ++ flat_map g xs ≡ [] = cc in
          let head : y ≡ x = cc in
          let none = both_empty l (flat_map g xs) tail in
          more (inr (is ∙ (λ i. head i ∷ none.0 i))) (rest (inl none.1))

  some_given : (g : A → List B) (x : B) (ys : List A) → All (Gives g x) ys → length (flat_map g ys) ≡ 1 → flat_map g ys ≡ x ∷ []
  some_given g x [] all long = absurd (omega (arith, long))
  some_given g x (c ∷ ys) all long = by (all 0 c (omega arith)) (some_given g x ys (λ k d lt. all (suc k) d (omega (arith, lt))))
    where
      by : (g c ≡ []) ⊎ (g c ≡ x ∷ []) → (length (flat_map g ys) ≡ 1 → flat_map g ys ≡ x ∷ []) → g c ++ flat_map g ys ≡ x ∷ []
      by (inl e) rest = rw e (rest (sym (ap (λ (l : List B). length (l ++ flat_map g ys)) e) ∙ long))
      by (inr e) rest =
          let size = sym (ap (λ (l : List B). length (l ++ flat_map g ys)) e) ∙ long in
          let none = empty_is (flat_map g ys) (omega (arith, size)) in
          rw (e, none) refl

  -- where a list gives one thing or none, a permutation gives the same
  pub given_alike : (g : A → List B) (xs ys : List A) → IsPermutation xs ys → (flat_map g xs ≡ []) ⊎ ((x : B) × (flat_map g xs ≡ x ∷ [])) → flat_map g ys ≡ flat_map g xs
  given_alike g xs ys p (inl e) = empty_is (flat_map g ys) (long_alike g xs ys p ∙ ap length e) ∙ sym e
  given_alike g xs ys p (inr (x, e)) = some_given g x ys (All-permutation (Gives g x) xs ys p (all_give g x xs (inr e))) (long_alike g xs ys p ∙ ap length e) ∙ sym e

module _ {V : Type 0} where
  -- what a change puts at a place
  abbrev gives : ℕ → Hash × Option (Placed V) → List (Hash × V)
  gives i c = at_place i (ordered.present c)

  -- the change puts a value under a hash that isn't there, at a place below m
  abbrev IsNew : List (Hash × Placed V) → ℕ → Hash × Option (Placed V) → Type 0
  IsNew pairs m (hash, None) = ⊥
  IsNew pairs m (hash, Some p) = (ordered.value_of hash_cmp pairs hash ≡ None) × (nat_lt p.place m ≡ true)

  -- ---- changes whose hashes ascend

  all_above : (x : Hash) (cs : List (Hash × Option (Placed V))) (j : ℕ) (d : Hash × Option (Placed V)) → ascends hash_cmp (Some x) cs ≡ true → j < length cs → hash_cmp x (get_or cs j d).0 ≡ Less
  all_above x [] j d up lt = absurd (omega (arith, lt))
  all_above x (c ∷ cs) zero d up lt = less_is _ (and_true (is_lt (hash_cmp x c.0)) (ascends hash_cmp (Some c.0) cs) up).0
  all_above x (c ∷ cs) (suc j) d up lt =
      let a = and_true (is_lt (hash_cmp x c.0)) (ascends hash_cmp (Some c.0) cs) up in
      hash_total.trans x c.0 _ (less_is _ a.0) (all_above c.0 cs j d a.1 (omega (arith, lt)))

  still_new : (hash : Hash) (p : Placed V) (pairs : List (Hash × Placed V)) (m : ℕ) (c : Hash × Option (Placed V)) → ordered.value_of hash_cmp pairs hash ≡ None → hash_cmp hash c.0 ≡ Less → IsNew pairs m c
      → IsNew (ordered.after_change hash_cmp (hash, Some p) pairs) m c
  still_new hash p pairs m (other, None) absent lower new = new
  still_new hash p pairs m (other, Some q) absent lower new =
      (found_more (hash, p) pairs _ other absent (put_more hash p pairs absent) ∙ rw lower new.0, new.1)

  still_all : (hash : Hash) (p : Placed V) (pairs : List (Hash × Placed V)) (m : ℕ) (cs : List (Hash × Option (Placed V))) → ordered.value_of hash_cmp pairs hash ≡ None → ascends hash_cmp (Some hash) cs ≡ true
      → All (IsNew pairs m) cs → All (IsNew (ordered.after_change hash_cmp (hash, Some p) pairs) m) cs
  still_all hash p pairs m cs absent up all = λ j d lt. still_new hash p pairs m (get_or cs j d) absent (all_above hash cs j d up lt) (all j d lt)

  tail_up : (last : Option Hash) (c : Hash × Option (Placed V)) (cs : List (Hash × Option (Placed V))) → ascends hash_cmp last (c ∷ cs) ≡ true → ascends hash_cmp (Some c.0) cs ≡ true
  tail_up last c cs up = (and_true (follows hash_cmp last c.0) (ascends hash_cmp (Some c.0) cs) up).1

  -- ---- what is at a place after them

  at_none : (i m : ℕ) (last : Option Hash) (cs : List (Hash × Option (Placed V))) (pairs : List (Hash × Placed V)) → ascends hash_cmp last cs ≡ true → All (IsNew pairs m) cs → flat_map (gives i) cs ≡ []
      → at_place i (ordered.after_changes hash_cmp cs pairs) ≡ at_place i pairs
  at_none i m last [] pairs up all none = refl
  at_none i m last ((hash, None) ∷ cs) pairs up all none = absurd (all 0 (hash, None) (omega arith))
  at_none i m last ((hash, Some p) ∷ cs) pairs up all none =
      let new = all 0 (hash, Some p) (omega arith) in
      let parts = both_empty (gives i (hash, Some p)) (flat_map (gives i) cs) none in
      let up1 = tail_up last (hash, Some p) cs up in
      at_none i m (Some hash) cs _ up1 (still_all hash p pairs m cs new.0 up1 (λ j d lt. all (suc j) d (omega (arith, lt)))) parts.1
      ∙ at_other i (hash, p) pairs _ (elsewhere (nat_eq p.place i) (hash, p.value) parts.0) (put_more hash p pairs new.0)
    where
      elsewhere : (b : Bool) (x : Hash × V) → cond b (x ∷ []) [] ≡ [] → b ≡ false
      elsewhere true x e = absurd cc
      elsewhere false x e = refl

  at_one : (i m : ℕ) (last : Option Hash) (cs : List (Hash × Option (Placed V))) (pairs : List (Hash × Placed V)) → ascends hash_cmp last cs ≡ true → All (IsNew pairs m) cs → at_place i pairs ≡ []
      → length (flat_map (gives i) cs) ≤ 1 → at_place i (ordered.after_changes hash_cmp cs pairs) ≡ flat_map (gives i) cs
  at_one i m last [] pairs up all none few = none
  at_one i m last ((hash, None) ∷ cs) pairs up all none few = absurd (all 0 (hash, None) (omega arith))
  at_one i m last ((hash, Some p) ∷ cs) pairs up all none few =
      let new = all 0 (hash, Some p) (omega arith) in
      let up1 = tail_up last (hash, Some p) cs up in
      let rest = still_all hash p pairs m cs new.0 up1 (λ j d lt. all (suc j) d (omega (arith, lt))) in
      by new.0 up1 rest (at_one i m (Some hash) cs _ up1 rest) (nat_eq p.place i) refl
    where
      by : ordered.value_of hash_cmp pairs hash ≡ None → ascends hash_cmp (Some hash) cs ≡ true → All (IsNew (ordered.after_change hash_cmp (hash, Some p) pairs) m) cs
          → (at_place i (ordered.after_change hash_cmp (hash, Some p) pairs) ≡ [] → length (flat_map (gives i) cs) ≤ 1
          → at_place i (ordered.after_changes hash_cmp cs (ordered.after_change hash_cmp (hash, Some p) pairs)) ≡ flat_map (gives i) cs)
          → (b : Bool) → nat_eq p.place i ≡ b → at_place i (ordered.after_changes hash_cmp cs (ordered.after_change hash_cmp (hash, Some p) pairs)) ≡ gives i (hash, Some p) ++ flat_map (gives i) cs
      by absent up1 rest more true e =
          let own : gives i (hash, Some p) ≡ (hash, p.value) ∷ [] = rw e refl in
          let size : length (gives i (hash, Some p) ++ flat_map (gives i) cs) ≡ suc (length (flat_map (gives i) cs)) = ap (λ (l : List (Hash × V)). length (l ++ flat_map (gives i) cs)) own in
          let nothing = empty_is (flat_map (gives i) cs) (omega (arith, few, size)) in
          at_none i m (Some hash) cs _ up1 rest nothing ∙ at_own i (hash, p) pairs _ e none (put_more hash p pairs absent) ∙ sym (λ j. own j ++ nothing j)
      by absent up1 rest more false e =
          let other : gives i (hash, Some p) ≡ [] = rw e refl in
          let size = ap (λ (l : List (Hash × V)). length (l ++ flat_map (gives i) cs)) other in
          more (at_other i (hash, p) pairs _ e (put_more hash p pairs absent) ∙ none) (omega (arith, few, size))
          ∙ sym (ap (λ (l : List (Hash × V)). l ++ flat_map (gives i) cs) other)

  below_after : (m : ℕ) (last : Option Hash) (cs : List (Hash × Option (Placed V))) (pairs : List (Hash × Placed V)) → ascends hash_cmp last cs ≡ true → All (IsNew pairs m) cs
      → list_all (λ x. nat_lt x.1.place m) pairs ≡ true → list_all (λ x. nat_lt x.1.place m) (ordered.after_changes hash_cmp cs pairs) ≡ true
  below_after m last [] pairs up all below = below
  below_after m last ((hash, None) ∷ cs) pairs up all below = absurd (all 0 (hash, None) (omega arith))
  below_after m last ((hash, Some p) ∷ cs) pairs up all below =
      let new = all 0 (hash, Some p) (omega arith) in
      let up1 = tail_up last (hash, Some p) cs up in
      below_after m (Some hash) cs _ up1 (still_all hash p pairs m cs new.0 up1 (λ j d lt. all (suc j) d (omega (arith, lt))))
      (more_pass (λ x. nat_lt x.1.place m) (hash, p) pairs _ new.1 below (put_more hash p pairs new.0))

  -- ---- the changes of values that come after others

  low : (n i : ℕ) (items : List (Hash × V)) → i < n → flat_map (gives i) (puts n items) ≡ []
  low n i [] lt = refl
  low n i (x ∷ items) lt =
      let other : nat_eq n i ≡ false = grind (arith, nat_tests) in
      rw other (low (suc n) i items (omega (arith, lt)))

  one_or_none : (n i : ℕ) (items : List (Hash × V)) → (flat_map (gives i) (puts n items) ≡ []) ⊎ ((y : Hash × V) × (flat_map (gives i) (puts n items) ≡ y ∷ []))
  one_or_none n i [] = inl refl
  one_or_none n i (x ∷ items) = by (nat_eq n i) refl (one_or_none (suc n) i items)
    where
      by : (b : Bool) → nat_eq n i ≡ b → (flat_map (gives i) (puts (suc n) items) ≡ []) ⊎ ((y : Hash × V) × (flat_map (gives i) (puts (suc n) items) ≡ y ∷ []))
          → (flat_map (gives i) (puts n (x ∷ items)) ≡ []) ⊎ ((y : Hash × V) × (flat_map (gives i) (puts n (x ∷ items)) ≡ y ∷ []))
      by true e rest = inr (x, rw (e, low (suc n) i items (grind (arith, nat_tests))) refl)
      by false e (inl none) = inl (rw e none)
      by false e (inr (y, one)) = inr (y, rw e one)

  standing : (n : ℕ) (items : List (Hash × V)) (pairs : List (Hash × Placed V)) → ((i : ℕ) → n ≤ i → at_place i pairs ≡ flat_map (gives i) (puts n items))
      → arrived (length items + n) pairs ≡ reverse items ++ arrived n pairs
  standing n [] pairs at = let none : length {A = Hash × V} [] + n ≡ n = omega arith in ap (λ (k : ℕ). arrived k pairs) none
  standing n (x ∷ items) pairs at =
      let shift : suc (length items) + n ≡ length items + suc n = omega arith in
      let past : (i : ℕ) → suc n ≤ i → at_place i pairs ≡ flat_map (gives i) (puts (suc n) items) = λ i le. let other : nat_eq n i ≡ false = grind (arith, nat_tests) in at i (omega (arith, le)) ∙ rw other refl in
      let own : nat_eq n n ≡ true = grind (arith, nat_tests) in
      let here : at_place n pairs ≡ x ∷ [] = at n (omega arith) ∙ rw (own, low (suc n) n items (omega arith)) refl in
      ap (λ (k : ℕ). arrived k pairs) shift ∙ standing (suc n) items pairs past ∙ ap (λ (l : List (Hash × V)). reverse items ++ (l ++ arrived n pairs)) here
      ∙ sym (ap (λ (l : List (Hash × V)). l ++ arrived n pairs) (reverse-append (x ∷ []) items) ∙ append_assoc (reverse items) (x ∷ []) (arrived n pairs))

  keys_put : (n : ℕ) (items : List (Hash × V)) → map (λ c. c.0) (puts n items) ≡ map (λ x. x.0) items
  keys_put n [] = refl
  keys_put n (x ∷ items) = ap (λ (l : List Hash). x.0 ∷ l) (keys_put (suc n) items)

  all_put : (n m : ℕ) (items : List (Hash × V)) (pairs : List (Hash × Placed V)) → length items + n ≤ m → All (λ x. ordered.value_of hash_cmp pairs x.0 ≡ None) items → All (IsNew pairs m) (puts n items)
  all_put n m [] pairs le all = λ k d lt. absurd (omega (arith, lt))
  all_put n m (x ∷ items) pairs le all = by (all_put (suc n) m items pairs (omega (arith, le)) (λ k d lt. all (suc k) d (omega (arith, lt))))
    where
      by : All (IsNew pairs m) (puts (suc n) items) → All (IsNew pairs m) (puts n (x ∷ items))
      by rest zero d lt = (all 0 x (omega arith), grind (arith, nat_tests, le))
      by rest (suc k) d lt = rest k d (omega (arith, lt))

  -- ---- hashes that differ

  none_is : (value : Option V) → is_none value ≡ true → value ≡ None
  none_is None e = refl
  none_is (Some v) e = absurd cc

  apart : (newer older : List (Hash × V)) (hash : Hash) → value_of (newer ++ older) hash ≡ None → AllByRecursion (λ y. tied hash y ≡ false) (map (λ x. x.0) newer) × (value_of older hash ≡ None)
  apart [] older hash e = (tt, e)
  apart (x ∷ newer) older hash e =
      let parts = absent_parts (same_hash x.0 hash) x.1 (value_of (newer ++ older) hash) e in
      let rest = apart newer older hash parts.1 in
      ((sym (ties x.0 hash) ∙ parts.0, rest.0), rest.1)

  all_apart : (newer older : List (Hash × V)) → are_distinct (newer ++ older) ≡ true → IsDistinct tied (map (λ x. x.0) newer) × All (λ x. value_of older x.0 ≡ None) newer
  unfolding IsDistinct
  all_apart [] older are = (tt, λ k d lt. absurd (omega (arith, lt)))
  all_apart (x ∷ newer) older are =
      let parts = and_true (is_none (value_of (newer ++ older) x.0)) (are_distinct (newer ++ older)) are in
      let here = apart newer older x.0 (none_is _ parts.0) in
      let rest = all_apart newer older parts.1 in
      ((here.0, rest.0), by here.1 rest.1)
    where
      by : value_of older x.0 ≡ None → All (λ y. value_of older y.0 ≡ None) newer → All (λ y. value_of older y.0 ≡ None) (x ∷ newer)
      by here rest zero d lt = here
      by here rest (suc k) d lt = rest k d (omega (arith, lt))

  -- ---- sorted changes whose hashes differ ascend

  up_from : (c : Hash × Option (Placed V)) (cs : List (Hash × Option (Placed V))) → IsSortedByKey (λ x. x.0) hash_cmp (c ∷ cs) → IsDistinct tied (map (λ x. x.0) (c ∷ cs)) → ascends hash_cmp (Some c.0) cs ≡ true
  unfolding IsDistinct
  up_from c [] up differ = refl
  up_from c (d ∷ cs) up differ =
      let first : is_lt (hash_cmp d.0 c.0) ≡ false = up 0 c (omega arith) (omega arith) in
      let other : is_eq (hash_cmp d.0 c.0) ≡ false = differ.0.0 in
      let less : is_lt (hash_cmp c.0 d.0) ≡ true = ap is_lt (hash_total.antisymm c.0 d.0) ∙ turned (hash_cmp d.0 c.0) first other in
      both_true _ _ less (up_from d cs (λ k e l h. later k e (up (suc k) e (omega arith) (omega (arith, h)))) differ.1)
    where
      turned : (o : Ordering) → is_lt o ≡ false → is_eq o ≡ false → is_lt (ordering_reverse o) ≡ true
      turned Less e f = absurd cc
      turned Equal e f = absurd cc
      turned Greater e f = refl

      later : (k : ℕ) (e : Hash × Option (Placed V)) → is_lt (hash_cmp (get_or (c ∷ d ∷ cs) (suc k + 1) e).0 (get_or (c ∷ d ∷ cs) (suc k) e).0) ≡ false
          → is_lt (hash_cmp (get_or (d ∷ cs) (k + 1) e).0 (get_or (d ∷ cs) k e).0) ≡ false
      later k e h = let n : suc k + 1 ≡ suc (k + 1) = omega arith in subst (λ (n : ℕ). is_lt (hash_cmp (get_or (c ∷ d ∷ cs) n e).0 (get_or (d ∷ cs) k e).0) ≡ false) n h

  up_all : (cs : List (Hash × Option (Placed V))) → IsSortedByKey (λ x. x.0) hash_cmp cs → IsDistinct tied (map (λ x. x.0) cs) → ascends hash_cmp None cs ≡ true
  up_all [] up differ = refl
  up_all (c ∷ cs) up differ = both_true _ _ refl (up_from c cs up differ)

  pub sorted_ascend : (n : ℕ) (items older : List (Hash × V)) (cs : List (Hash × Option (Placed V))) → are_distinct (reverse items ++ older) ≡ true → IsPermutation (puts n items) cs → IsSortedByKey (λ x. x.0) hash_cmp cs
      → ascends hash_cmp None cs ≡ true
  sorted_ascend n items older cs are moved up =
      let back = IsPermutation-sym items (reverse items) (IsPermutation-reverse items) in
      let first = IsDistinct-IsPermutation tied flips (map (λ x. x.0) (reverse items)) (map (λ x. x.0) items) (IsPermutation-map (λ x. x.0) (reverse items) items back) (all_apart (reverse items) older are).0 in
      let given = subst (λ (l : List Hash). IsDistinct tied l) (sym (keys_put n items)) first in
      up_all cs up (IsDistinct-IsPermutation tied flips (map (λ c. c.0) (puts n items)) (map (λ c. c.0) cs) (IsPermutation-map (λ c. c.0) (puts n items) cs moved) given)

  -- ---- the whole table

  pub placed_all : (n m : ℕ) (items : List (Hash × V)) (pairs more : List (Hash × Placed V)) (cs : List (Hash × Option (Placed V))) → IsPlaced n pairs → m ≡ length items + n → are_distinct (reverse items ++ arrived n pairs) ≡ true
      → IsPermutation (puts n items) cs → IsSortedByKey (λ x. x.0) hash_cmp cs → more ≡ ordered.after_changes hash_cmp cs pairs
      → IsPlaced m more × (arrived m more ≡ reverse items ++ arrived n pairs)
  placed_all n m items pairs more cs are long distinct moved sorted is =
      let up = sorted_ascend n items (arrived n pairs) cs distinct moved sorted in
      let older = (all_apart (reverse items) (arrived n pairs) distinct).1 in
      let absent = All-permutation (λ x. value_of (arrived n pairs) x.0 ≡ None) (reverse items) items (IsPermutation-sym items (reverse items) (IsPermutation-reverse items)) older in
      let put = all_put n m items pairs (omega (arith, long)) (λ k d lt. absent_there (get_or items k d).0 n pairs are (absent k d lt)) in
      let new : All (IsNew pairs m) cs = All-permutation (IsNew pairs m) (puts n items) cs moved put in
      let given = λ (i : ℕ). given_alike (gives i) (puts n items) cs moved (one_or_none n i items) in
      let few = λ (i : ℕ). few_of (flat_map (gives i) cs) (flat_map (gives i) (puts n items)) (given i) (one_or_none n i items) in
      let after = ordered.after_changes hash_cmp cs pairs in
      let high = λ (i : ℕ) (le : n ≤ i). at_one i m None cs pairs up new (none_at n i pairs le are.below) (few i) ∙ given i in
      let lower = λ (i : ℕ) (lt : i < n). at_none i m None cs pairs up new (given i ∙ low n i items lt) in
      let stands = standing n items after high ∙ ap (λ (l : List (Hash × V)). reverse items ++ l) (arrived_alike n pairs after lower) in
      let view : arrived m after ≡ reverse items ++ arrived n pairs = ap (λ (k : ℕ). arrived k after) long ∙ stands in
      let fit = below_after m None cs pairs up new (below_more n m pairs (omega (arith, long)) are.below) in
      let alone : (i : ℕ) → length (at_place i after) ≤ 1 = λ i. split (nat_lt i n)
      (λ e. let size = ap length (lower i (grind (arith, nat_tests))) in let one = are.alone i in omega (arith, size, one))
      (λ e.
      let le : n ≤ i = grind (arith, nat_tests) in
      let size = ap length (at_one i m None cs pairs up new (none_at n i pairs le are.below) (few i)) in
      let one = few i in
      omega (arith, size, one)) in
      let once : are_distinct (arrived m after) ≡ true = ap are_distinct view ∙ distinct in
      subst (λ (l : List (Hash × Placed V)). IsPlaced m l × (arrived m l ≡ reverse items ++ arrived n pairs)) (sym is) (record { below = fit; distinct = once; alone = alone }, view)
