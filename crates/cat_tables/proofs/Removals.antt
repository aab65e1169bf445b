-- Tables after values were taken away by their hashes, and the hashes of a table.
use Rattle.std.proofs.Common.{◌≡◌, ℕ, zero, suc, ◌≤◌, length, arith, List, [], ◌∷◌, ◌++◌, Option, Some, None, Bool, true, false, cond, not, ◌||◌, is_none, is_some, map, nat_eq, nat_lt, refl, sym, ap, subst, ◌∙◌}
use Rattle.std.proofs.lemmas.List.Elements.{filter-append}
use Rattle.std.proofs.lemmas.List.Sorted.{list_any-IsPermutation}
use Rattle.std.specs.List.{list_all, filter, dedup, dedup_from, AllByRecursion}
use Rattle.std.specs.List.Sorted.{IsPermutation, IsStrictlySortedBy}
use Rattle.std.specs.Option.{option_map}
use Rattle.std.specs.Ordering.{is_eq, is_lt, ordering_reverse}
use Rattle.std.specs.declared.cmp.Ordering.{Ordering}
use Rattle.std.specs.declared.cmp.Ordering.TheVariants.{Less, Equal}
use Rattle.cat_codes.specs.Code.{follows, ascends, keys_ascend}
use Rattle.cat_model.specs.Base.{is_among}
use Rattle.cat_names.specs.declared.hash.Hash.{Hash}
use Rattle.cat_ordered.specs.Maps as ordered
use Rattle.cat_tables.specs.declared.table.Placed.{Placed}
use Rattle.cat_tables.specs.Arrivals.{at_place, arrived, removes, IsPlaced}
use Rattle.cat_tables.specs.HashOrder.{hash_cmp}
use Rattle.cat_tables.specs.ReferenceLaws.{both_true, and_true, split}
use Rattle.cat_tables.specs.Tables.{same_hash, value_of, are_distinct}
use Rattle.cat_tables.proofs.Arriving.{split3, less_is, hash_total, ties, found_of}
use Rattle.cat_tables.proofs.Places.{same_is}

-- ---- filters

module _ {A : Type 0} where
  all_pass : (xs : List A) → xs ≡ filter (λ x. true) xs
  all_pass [] = refl
  all_pass (x ∷ xs) = ap (λ (l : List A). x ∷ l) (all_pass xs)

  -- what passes neither test, one test after the other
  one_by_one : (p q : A → Bool) (xs : List A) → filter (λ x. not (q x)) (filter (λ x. not (p x)) xs) ≡ filter (λ x. not (p x || q x)) xs
  one_by_one p q [] = refl
  one_by_one p q (x ∷ xs) = split (p x)
      (λ e. rw e (one_by_one p q xs))
      (λ e. rw e (ap (λ (l : List A). cond (not (q x)) (x ∷ l) l) (one_by_one p q xs)))

  all_kept : (p q : A → Bool) (xs : List A) → list_all q xs ≡ true → list_all q (filter p xs) ≡ true
  all_kept p q [] all = refl
  all_kept p q (x ∷ xs) all =
      let parts = and_true (q x) (list_all q xs) all in
      let rest = all_kept p q xs parts.1 in
      split (p x) (λ e. rw e (both_true _ _ parts.0 rest)) (λ e. rw e rest)

  no_longer : (p : A → Bool) (xs : List A) → length (filter p xs) ≤ length xs
  no_longer p [] = omega arith
  no_longer p (x ∷ xs) =
      let rest = no_longer p xs in
      split (p x) (λ e. rw e (omega (arith, rest))) (λ e. rw e (omega (arith, rest)))

-- ---- hashes that ascend

-- hashes are the same where they compare equal, the other way round
turned : (a b : Hash) (o : Ordering) → hash_cmp a b ≡ o → same_hash b a ≡ is_eq (ordering_reverse o)
turned a b o e = ties b a ∙ ap is_eq (hash_total.antisymm b a ∙ ap ordering_reverse e)

module _ {A : Type 0} where
  pub ascends_lower : (hash : Hash) (last : Option Hash) (xs : List (Hash × A)) → follows hash_cmp last hash ≡ true → ascends hash_cmp (Some hash) xs ≡ true → ascends hash_cmp last xs ≡ true
  ascends_lower hash last [] lt up = refl
  ascends_lower hash None (x ∷ xs) lt up = (and_true (is_lt (hash_cmp hash x.0)) (ascends hash_cmp (Some x.0) xs) up).1
  ascends_lower hash (Some last) (x ∷ xs) lt up =
      let parts = and_true (is_lt (hash_cmp hash x.0)) (ascends hash_cmp (Some x.0) xs) up in
      both_true _ _ (ap is_lt (hash_total.trans last hash x.0 (less_is _ lt) (less_is _ parts.0))) parts.1

  ascends_kept : (p : Hash × A → Bool) (last : Option Hash) (xs : List (Hash × A)) → ascends hash_cmp last xs ≡ true → ascends hash_cmp last (filter p xs) ≡ true
  ascends_kept p last [] up = refl
  ascends_kept p last (x ∷ xs) up =
      let parts = and_true (follows hash_cmp last x.0) (ascends hash_cmp (Some x.0) xs) up in
      let rest = ascends_kept p (Some x.0) xs parts.1 in
      split (p x)
      (λ e. rw e (both_true _ _ parts.0 rest))
      (λ e. rw e (ascends_lower x.0 last (filter p xs) parts.0 rest))

  -- what is above a hash stays without it
  above_stays : (hash : Hash) (xs : List (Hash × A)) → ascends hash_cmp (Some hash) xs ≡ true → xs ≡ filter (λ x. not (same_hash hash x.0)) xs
  above_stays hash [] up = refl
  above_stays hash (x ∷ xs) up =
      let parts = and_true (is_lt (hash_cmp hash x.0)) (ascends hash_cmp (Some x.0) xs) up in
      let other : same_hash hash x.0 ≡ false = ties hash x.0 ∙ ap is_eq (less_is _ parts.0) in
      rw other (ap (λ (l : List (Hash × A)). x ∷ l) (above_stays hash xs (ascends_lower x.0 (Some hash) xs parts.0 parts.1)))

  one_removed : (hash : Hash) (last : Option Hash) (xs : List (Hash × A)) → ascends hash_cmp last xs ≡ true → ordered.after_change hash_cmp (hash, None) xs ≡ filter (λ x. not (same_hash hash x.0)) xs
  one_removed hash last [] up = refl
  one_removed hash last (x ∷ xs) up =
      let parts = and_true (follows hash_cmp last x.0) (ascends hash_cmp (Some x.0) xs) up in
      split3 (hash_cmp x.0 hash)
      (λ o. let other = turned x.0 hash Less o in rw (o, other) (ap (λ (l : List (Hash × A)). x ∷ l) (one_removed hash (Some x.0) xs parts.1)))
      (λ o.
      let same = turned x.0 hash Equal o in
      rw (o, same) (above_stays hash xs (subst (λ (h : Hash). ascends hash_cmp (Some h) xs ≡ true) (sym (same_is hash x.0 same)) parts.1)))
      (λ o.
      let above : is_lt (hash_cmp hash x.0) ≡ true = ap is_lt (hash_total.antisymm hash x.0 ∙ ap ordering_reverse o) in
      rw o (above_stays hash (x ∷ xs) (both_true _ _ above parts.1)))

  -- the hashes of pairs that ascend ascend
  pub hashes_ascend : (last : Option Hash) (xs : List (Hash × A)) → ascends hash_cmp last xs ≡ true → keys_ascend hash_cmp last (map (λ x. x.0) xs) ≡ true
  hashes_ascend last [] up = refl
  hashes_ascend last (x ∷ xs) up =
      let parts = and_true (follows hash_cmp last x.0) (ascends hash_cmp (Some x.0) xs) up in
      both_true _ _ parts.0 (hashes_ascend (Some x.0) xs parts.1)

  none_kept : (p : Hash × A → Bool) (list : List (Hash × A)) (hash : Hash) → is_none (value_of list hash) ≡ true → is_none (value_of (filter p list) hash) ≡ true
  none_kept p [] hash none = refl
  none_kept p (x ∷ list) hash none = split (same_hash x.0 hash)
      (λ e. let some : false ≡ true = rw e at none in absurd cc)
      (λ e.
      let rest = none_kept p list hash (rw e at none) in
      split (p x) (λ f. rw f (rw e rest)) (λ f. rw f rest))

  distinct_kept : (p : Hash × A → Bool) (list : List (Hash × A)) → are_distinct list ≡ true → are_distinct (filter p list) ≡ true
  distinct_kept p [] are = refl
  distinct_kept p (x ∷ list) are =
      let parts = and_true (is_none (value_of list x.0)) (are_distinct list) are in
      let rest = distinct_kept p list parts.1 in
      split (p x) (λ e. rw e (both_true _ _ (none_kept p list x.0 parts.0) rest)) (λ e. rw e rest)

-- ---- hashes in their order, each once

pub strictly_ascend : (hashes : List Hash) → IsStrictlySortedBy hash_cmp hashes → keys_ascend hash_cmp None hashes ≡ true
unfolding IsStrictlySortedBy
strictly_ascend [] up = refl
strictly_ascend (x ∷ hashes) up = both_true _ _ refl (from x hashes up.0 up.1)
  where
    from : (x : Hash) (hashes : List Hash) → AllByRecursion (λ y. hash_cmp x y ≡ Less) hashes → IsStrictlySortedBy hash_cmp hashes → keys_ascend hash_cmp (Some x) hashes ≡ true
    from x [] below up = refl
    from x (y ∷ hashes) below up = both_true _ _ (ap is_lt below.0) (from y hashes up.0 up.1)

-- what comes again tells no more
pub among_once : (hashes : List Hash) (hash : Hash) → is_among (dedup same_hash hashes) hash ≡ is_among hashes hash
among_once [] hash = refl
among_once (x ∷ hashes) hash = from x hashes
  where
    again : (b c : Bool) → (b || c) ≡ (b || (b || c))
    again true c = refl
    again false c = refl

    from : (last : Hash) (hashes : List Hash) → is_among (dedup_from same_hash last hashes) hash ≡ (same_hash last hash || is_among hashes hash)
    from last [] = refl
    from last (x ∷ hashes) = split (same_hash x last)
        (λ e. rw e (from last hashes ∙ again (same_hash last hash) (is_among hashes hash) ∙ ap (λ (h : Hash). same_hash last hash || (same_hash h hash || is_among hashes hash)) (sym (same_is x last e))))
        (λ e. rw e (ap (λ (b : Bool). same_hash last hash || b) (from x hashes)))

pub among_ascending : (hashes sorted once : List Hash) → IsPermutation hashes sorted → once ≡ dedup same_hash sorted → (hash : Hash) → is_among once hash ≡ is_among hashes hash
among_ascending hashes sorted once moved is hash =
    ap (λ (l : List Hash). is_among l hash) is ∙ among_once sorted hash ∙ sym (list_any-IsPermutation (λ h. same_hash h hash) hashes sorted moved)

module _ {V : Type 0} where
  pub removes_ascend : (last : Option Hash) (hashes : List Hash) (cs : List (Hash × Option (Placed V))) → cs ≡ removes hashes → keys_ascend hash_cmp last hashes ≡ true → ascends hash_cmp last cs ≡ true
  removes_ascend last [] cs is up = subst (λ (l : List (Hash × Option (Placed V))). ascends hash_cmp last l ≡ true) (sym is) refl
  removes_ascend last (x ∷ hashes) cs is up =
      let parts = and_true (follows hash_cmp last x) (keys_ascend hash_cmp (Some x) hashes) up in
      subst (λ (l : List (Hash × Option (Placed V))). ascends hash_cmp last l ≡ true) (sym is) (both_true _ _ parts.0 (removes_ascend (Some x) hashes (removes hashes) refl parts.1))

  -- ---- what stays

  all_removed : (hashes : List Hash) (pairs : List (Hash × Placed V)) → ascends hash_cmp None pairs ≡ true → ordered.after_changes hash_cmp (removes hashes) pairs ≡ filter (λ x. not (is_among hashes x.0)) pairs
  all_removed [] pairs up = all_pass pairs
  all_removed (hash ∷ hashes) pairs up =
      ap (ordered.after_changes hash_cmp (removes hashes)) (one_removed hash None pairs up)
      ∙ all_removed hashes (filter (λ x. not (same_hash hash x.0)) pairs) (ascends_kept (λ x. not (same_hash hash x.0)) None pairs up)
      ∙ one_by_one (λ x. same_hash hash x.0) (λ x. is_among hashes x.0) pairs

  at_kept : (p : Hash → Bool) (i : ℕ) (pairs : List (Hash × Placed V)) → at_place i (filter (λ x. p x.0) pairs) ≡ filter (λ x. p x.0) (at_place i pairs)
  at_kept p i [] = refl
  at_kept p i (x ∷ pairs) =
      let rest = at_kept p i pairs in
      split (p x.0)
      (λ e. split (nat_eq x.1.place i) (λ f. rw (e, f) (rw e (ap (λ (l : List (Hash × V)). (x.0, x.1.value) ∷ l) rest))) (λ f. rw (e, f) rest))
      (λ e. split (nat_eq x.1.place i) (λ f. rw (e, f) (rw e rest)) (λ f. rw (e, f) rest))

  arrived_kept : (p : Hash → Bool) (n : ℕ) (pairs : List (Hash × Placed V)) → arrived n (filter (λ x. p x.0) pairs) ≡ filter (λ x. p x.0) (arrived n pairs)
  arrived_kept p zero pairs = refl
  arrived_kept p (suc n) pairs = (λ i. at_kept p n pairs i ++ arrived_kept p n pairs i) ∙ sym (filter-append (λ x. p x.0) (at_place n pairs) (arrived n pairs))

  pub placed_kept : (given hashes : List Hash) (n : ℕ) (pairs more : List (Hash × Placed V)) → IsPlaced n pairs → ascends hash_cmp None pairs ≡ true → ((hash : Hash) → is_among hashes hash ≡ is_among given hash)
      → more ≡ ordered.after_changes hash_cmp (removes hashes) pairs → IsPlaced n more × (arrived n more ≡ filter (λ x. not (is_among given x.0)) (arrived n pairs))
  placed_kept given hashes n pairs more are up same is =
      let stays = λ (hash : Hash). not (is_among given hash) in
      let left : more ≡ filter (λ x. stays x.0) pairs = is ∙ all_removed hashes pairs up ∙ (λ i. filter (λ x. not (same x.0 i)) pairs) in
      let view = arrived_kept stays n pairs in
      let few : (i : ℕ) → length (at_place i (filter (λ x. stays x.0) pairs)) ≤ 1 = λ i.
      let size = ap length (at_kept stays i pairs) in
      let shorter = no_longer (λ x. stays x.0) (at_place i pairs) in
      let one = are.alone i in
      omega (arith, size, shorter, one) in
      subst (λ (l : List (Hash × Placed V)). IsPlaced n l × (arrived n l ≡ filter (λ x. stays x.0) (arrived n pairs))) (sym left)
      (record { below = all_kept (λ x. stays x.0) (λ x. nat_lt x.1.place n) pairs are.below; distinct = ap are_distinct view ∙ distinct_kept (λ x. stays x.0) (arrived n pairs) are.distinct; alone = few }, view)

  -- ---- the hashes that are there

  among_held : (pairs : List (Hash × Placed V)) (hash : Hash) → is_among (map (λ x. x.0) pairs) hash ≡ is_some (ordered.value_of hash_cmp pairs hash)
  among_held [] hash = refl
  among_held (x ∷ pairs) hash =
      let here = ties x.0 hash in
      let rest = among_held pairs hash in
      split (is_eq (hash_cmp x.0 hash)) (λ e. let same : same_hash x.0 hash ≡ true = here ∙ e in rw (e, same) refl) (λ e. let other : same_hash x.0 hash ≡ false = here ∙ e in rw (e, other) rest)

  some_mapped : (f : Placed V → V) (o : Option (Placed V)) → is_some o ≡ is_some (option_map f o)
  some_mapped f None = refl
  some_mapped f (Some p) = refl

  pub all_among : (n : ℕ) (pairs : List (Hash × Placed V)) → IsPlaced n pairs → (hash : Hash) → is_among (map (λ x. x.0) pairs) hash ≡ is_some (value_of (arrived n pairs) hash)
  all_among n pairs are hash =
      among_held pairs hash ∙ some_mapped (λ p. p.value) (ordered.value_of hash_cmp pairs hash) ∙ ap is_some (sym (found_of n pairs hash are.below are.distinct))
