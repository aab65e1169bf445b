-- Sets as ascending lists, by an order that ties only what is the same: an ascending list with what another one has is its set.
use Rattle.std.proofs.Common.{◌≡◌, List, [], ◌∷◌, Option, Some, None, Bool, true, false, ◌||◌, refl, sym, ap, subst, ◌∙◌}
use Rattle.std.specs.Prelude.{fold}
use Rattle.std.specs.List.{dedup, dedup_from, list_all, list_any, AllByRecursion}
use Rattle.std.specs.List.Sorted.{IsPermutation, IsSorted, IsStrictlySortedBy}
use Rattle.std.specs.Ordering.{is_lt, is_eq, ordering_reverse}
use Rattle.std.specs.Cmp.{IsTotalOrder, tied_itself}
use Rattle.std.specs.declared.cmp.Ordering.{Ordering}
use Rattle.std.specs.declared.cmp.Ordering.TheVariants.{Less, Equal}
use Rattle.std.proofs.lemmas.List.Kept.{IsStrictlySortedBy-dedup}
use Rattle.std.proofs.lemmas.List.Sorted.{list_any-IsPermutation}
use Rattle.cat_codes.specs.Code.{follows, keys_ascend}
use Rattle.cat_model.specs.KeySets.{set_of, with_one}
use Rattle.cat_keymap.specs.KeyOrder.{equal_is, less_is, split3, both_true, and_true}

both_ways : {P : Type 0} (b c : Bool) → b ≡ c → b ≡ true → c ≡ false → P
both_ways true false e h g = absurd cc
both_ways true true e h g = absurd cc
both_ways false c e h g = absurd cc

or_false : (a : Bool) → (a || false) ≡ a
or_false true = refl
or_false false = refl

or_swap : (a b : Bool) → (a || b) ≡ (b || a)
or_swap true true = refl
or_swap true false = refl
or_swap false true = refl
or_swap false false = refl

pub or_assoc : (a b c : Bool) → ((a || b) || c) ≡ (a || (b || c))
or_assoc true b c = refl
or_assoc false b c = refl

or_again : (a b : Bool) → (a || b) ≡ ((a || b) || a)
or_again true b = refl
or_again false true = refl
or_again false false = refl

or_twice : (a b : Bool) → (a || b) ≡ (a || (a || b))
or_twice true b = refl
or_twice false b = refl

split : {P : Type 0} (b : Bool) → (b ≡ true → P) → (b ≡ false → P) → P
split true f g = f refl
split false f g = g refl

module _ {A : Type 0} (cmp : A → A → Ordering) (total : IsTotalOrder cmp) (eq : A → A → Bool) (ties : (a b : A) → eq a b ≡ is_eq (cmp a b))
    (one : (a b : A) → cmp a b ≡ Equal → a ≡ b) where
  abbrev rise : Option A → List A → Bool
  rise = keys_ascend cmp

  abbrev is_in : List A → A → Bool
  is_in xs k = list_any (λ other. eq other k) xs

  -- ---- what ascends

  abbrev Tail : Option A → A → List A → Type 0
  Tail last x xs = (follows cmp last x ≡ true) × (rise (Some x) xs ≡ true)

  tail : (last : Option A) (x : A) (xs : List A) → rise last (x ∷ xs) ≡ true → Tail last x xs
  tail last x xs up = and_true (follows cmp last x) (rise (Some x) xs) up

  same_is : (a b : A) → eq a b ≡ true → a ≡ b
  same_is a b e = one a b (equal_is (cmp a b) (sym (ties a b) ∙ e))

  other_is : (a b : A) → is_eq (cmp a b) ≡ false → eq a b ≡ false
  other_is a b e = ties a b ∙ e

  any_rise : (x : A) (xs : List A) → rise (Some x) xs ≡ true → rise None xs ≡ true
  any_rise x [] up = refl
  any_rise x (y ∷ xs) up = (tail (Some x) y xs up).1

  -- what is below all is not there
  below_all : (k y : A) (xs : List A) → cmp k y ≡ Less → rise (Some y) xs ≡ true → is_in xs k ≡ false
  below_all k y [] lt up = refl
  below_all k y (z ∷ xs) lt up =
      let t = tail (Some y) z xs up in
      let first : cmp k z ≡ Less = total.trans k y z lt (less_is _ t.0) in
      let back : eq z k ≡ false = other_is z k (ap is_eq (total.antisymm z k ∙ ap ordering_reverse first)) in
      rw back (below_all k z xs first t.1)

  -- nor that which all are above
  before_all : (y : A) (xs : List A) → rise (Some y) xs ≡ true → is_in xs y ≡ false
  before_all y [] up = refl
  before_all y (z ∷ xs) up =
      let t = tail (Some y) z xs up in
      let first : cmp y z ≡ Less = less_is _ t.0 in
      let back : eq z y ≡ false = other_is z y (ap is_eq (total.antisymm z y ∙ ap ordering_reverse first)) in
      rw back (below_all y z xs first t.1)

  not_first : (k y : A) (xs : List A) → cmp k y ≡ Less → rise (Some y) xs ≡ true → is_in (y ∷ xs) k ≡ false
  not_first k y xs lt up =
      let back : eq y k ≡ false = other_is y k (ap is_eq (total.antisymm y k ∙ ap ordering_reverse lt)) in
      rw back (below_all k y xs lt up)

  same_itself : (x : A) → eq x x ≡ true
  same_itself x = ties x x ∙ ap is_eq (tied_itself total x)

  in_first : (x : A) (xs : List A) → is_in (x ∷ xs) x ≡ true
  in_first x xs = rw (same_itself x) refl

  same_tail : (k x y : A) (xs ys : List A) → x ≡ y → rise (Some x) xs ≡ true → rise (Some y) ys ≡ true → is_in (x ∷ xs) k ≡ is_in (y ∷ ys) k → is_in xs k ≡ is_in ys k
  same_tail k x y xs ys e u v same = by (eq x k) refl
    where
      by : (b : Bool) → eq x k ≡ b → is_in xs k ≡ is_in ys k
      by true is =
          let it : x ≡ k = same_is x k is in
          subst (λ (h : A). is_in xs h ≡ is_in ys h) it
          (before_all x xs u ∙ sym (subst (λ (h : A). is_in ys h ≡ false) (sym e) (before_all y ys v)))
      by false out =
          let other : eq y k ≡ false = subst (λ (h : A). eq h k ≡ false) e out in
          sym (ap (λ (b : Bool). b || is_in xs k) out) ∙ same ∙ ap (λ (b : Bool). b || is_in ys k) other

  -- ascending lists that have the same are one
  pub one_list : (xs ys : List A) → rise None xs ≡ true → rise None ys ≡ true → ((k : A) → is_in xs k ≡ is_in ys k) → xs ≡ ys
  one_list [] [] u v same = refl
  one_list [] (y ∷ ys) u v same = both_ways _ _ (sym (same y)) (in_first y ys) refl
  one_list (x ∷ xs) [] u v same = both_ways _ _ (same x) (in_first x xs) refl
  one_list (x ∷ xs) (y ∷ ys) u v same = split3 (cmp x y)
      (λ o. both_ways _ _ (same x) (in_first x xs) (not_first x y ys o (tail None y ys v).1))
      (λ o. let head = one x y o in
      let rest : xs ≡ ys = one_list xs ys (any_rise x xs (tail None x xs u).1) (any_rise y ys (tail None y ys v).1) (λ k. same_tail k x y xs ys head (tail None x xs u).1 (tail None y ys v).1 (same k)) in
      λ i. head i ∷ rest i)
      (λ o. let lower : cmp y x ≡ Less = total.antisymm y x ∙ ap ordering_reverse o in
      both_ways _ _ (sym (same y)) (in_first y ys) (not_first y x xs lower (tail None x xs u).1))

  -- ---- sets

  rise_with : (last : Option A) (x : A) (xs : List A) → follows cmp last x ≡ true → rise last xs ≡ true → rise last (with_one cmp xs x) ≡ true
  rise_with last x [] f up = both_true _ _ f refl
  rise_with last x (z ∷ xs) f up =
      let t = tail last z xs up in
      split3 (cmp x z)
      (λ o. let l : is_lt (cmp x z) ≡ true = ap is_lt o in rw o (both_true _ _ f (both_true _ _ l t.1)))
      (λ o. rw o up)
      (λ o. let l : is_lt (cmp z x) ≡ true = ap is_lt (total.antisymm z x ∙ ap ordering_reverse o) in rw o (both_true _ _ t.0 (rise_with (Some z) x xs l t.1)))

  in_with : (k x : A) (xs : List A) → is_in (with_one cmp xs x) k ≡ (is_in xs k || eq x k)
  in_with k x [] = or_false (eq x k)
  in_with k x (z ∷ xs) =
      let there = eq z k || is_in xs k in
      split3 (cmp x z)
      (λ o. rw o (or_swap (eq x k) there))
      (λ o. rw o (or_again (eq z k) (is_in xs k) ∙ ap (λ (h : A). there || eq h k) (sym (one x z o))))
      (λ o. rw o (ap (λ (b : Bool). eq z k || b) (in_with k x xs) ∙ sym (or_assoc (eq z k) (is_in xs k) (eq x k))))

  rise_fold : (acc xs : List A) → rise None acc ≡ true → rise None (fold (with_one cmp) acc xs) ≡ true
  rise_fold acc [] up = up
  rise_fold acc (x ∷ xs) up = rise_fold (with_one cmp acc x) xs (rise_with None x acc refl up)

  in_fold : (k : A) (acc xs : List A) → is_in (fold (with_one cmp) acc xs) k ≡ (is_in acc k || is_in xs k)
  in_fold k acc [] = sym (or_false (is_in acc k))
  in_fold k acc (x ∷ xs) =
      in_fold k (with_one cmp acc x) xs ∙ ap (λ (b : Bool). b || is_in xs k) (in_with k x acc) ∙ or_assoc (is_in acc k) (eq x k) (is_in xs k)

  pub set_rises : (xs : List A) → keys_ascend cmp None (set_of cmp xs) ≡ true
  set_rises xs = rise_fold [] xs refl

  pub in_set : (xs : List A) (k : A) → is_in (set_of cmp xs) k ≡ is_in xs k
  in_set xs k = in_fold k [] xs

  -- ---- in their order, each once

  strictly_rise : (xs : List A) → IsStrictlySortedBy cmp xs → rise None xs ≡ true
  unfolding IsStrictlySortedBy
  strictly_rise [] up = refl
  strictly_rise (x ∷ xs) up = both_true _ _ refl (from x xs up.0 up.1)
    where
      from : (x : A) (xs : List A) → AllByRecursion (λ y. cmp x y ≡ Less) xs → IsStrictlySortedBy cmp xs → rise (Some x) xs ≡ true
      from x [] below up = refl
      from x (y ∷ xs) below up = both_true _ _ (ap is_lt below.0) (from y xs up.0 up.1)

  -- what comes again tells no more
  in_once : (xs : List A) (k : A) → is_in (dedup eq xs) k ≡ is_in xs k
  in_once [] k = refl
  in_once (x ∷ xs) k = from x xs
    where
      from : (last : A) (xs : List A) → is_in (dedup_from eq last xs) k ≡ (eq last k || is_in xs k)
      from last [] = refl
      from last (x ∷ xs) = split (eq x last)
          (λ e. rw e (from last xs ∙ or_twice (eq last k) (is_in xs k) ∙ ap (λ (n : A). eq last k || (eq n k || is_in xs k)) (sym (same_is x last e))))
          (λ e. rw e (ap (λ (b : Bool). eq last k || b) (from x xs)))

  -- what is sorted, and then each but the first of those that are the same is left out
  pub set_is : (xs sorted once : List A) → IsPermutation xs sorted → IsSorted cmp sorted → once ≡ dedup eq sorted → once ≡ set_of cmp xs
  set_is xs sorted once moved up is =
      one_list once (set_of cmp xs)
      (subst (λ (l : List A). rise None l ≡ true) (sym is) (strictly_rise (dedup eq sorted) (IsStrictlySortedBy-dedup total {E = eq} ties sorted up)))
      (set_rises xs)
      (λ k. ap (λ (l : List A). is_in l k) is ∙ in_once sorted k ∙ sym (list_any-IsPermutation (λ n. eq n k) xs sorted moved) ∙ sym (in_set xs k))

  -- ---- each of them

  all_with : (p : A → Bool) (x : A) (xs : List A) → p x ≡ true → list_all p xs ≡ true → list_all p (with_one cmp xs x) ≡ true
  all_with p x [] holds all = both_true _ _ holds refl
  all_with p x (z ∷ xs) holds all =
      let parts = and_true (p z) (list_all p xs) all in
      split3 (cmp x z)
      (λ o. rw o (both_true _ _ holds all))
      (λ o. rw o all)
      (λ o. rw o (both_true _ _ parts.0 (all_with p x xs holds parts.1)))

  all_fold : (p : A → Bool) (acc xs : List A) → list_all p acc ≡ true → list_all p xs ≡ true → list_all p (fold (with_one cmp) acc xs) ≡ true
  all_fold p acc [] has all = has
  all_fold p acc (x ∷ xs) has all =
      let parts = and_true (p x) (list_all p xs) all in
      all_fold p (with_one cmp acc x) xs (all_with p x acc parts.0 has) parts.1

  -- what holds of each holds of each in the set
  pub set_all : (p : A → Bool) (xs : List A) → list_all p xs ≡ true → list_all p (set_of cmp xs) ≡ true
  set_all p xs all = all_fold p [] xs refl all
