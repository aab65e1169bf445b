-- Values in the order of their arrival, and tables after one change.
use Rattle.std.proofs.Common.{◌≡◌, ◌⊎◌, inl, inr, ℕ, zero, suc, ◌<◌, ◌≤◌, List, [], ◌∷◌, ◌++◌, Option, Some, None, Bool, true, false, cond, is_none, length, nat_eq, nat_lt, refl, sym, ap, subst, ◌∙◌, arith}
use Rattle.std.proofs.lemmas.Bool.Decides.{nat_tests}
use Rattle.std.proofs.lemmas.List.{length-append}
use Rattle.std.proofs.lemmas.List.Folds.{list_all-append}
use Rattle.std.proofs.lemmas.Option.{none-some}
use Rattle.std.specs.Cmp.{IsTotalOrder, tied_itself}
use Rattle.std.specs.Cmp.Lexicographic.{on_texts, texts_ties}
use Rattle.std.specs.List.{list_all}
use Rattle.std.specs.Option.{option_map}
use Rattle.std.specs.Ordering.{is_eq, is_lt}
use Rattle.std.specs.declared.cmp.Ordering.{Ordering}
use Rattle.std.specs.declared.cmp.Ordering.TheVariants.{Less, Equal, Greater}
use Rattle.cat_names.specs.declared.hash.Hash.{Hash}
use Rattle.cat_ordered.specs.Maps as ordered
use Rattle.cat_tables.specs.declared.table.Placed.{Placed}
use Rattle.cat_tables.specs.Arrivals.{at_place, arrived, IsPlaced}
use Rattle.cat_tables.specs.HashOrder.{hash_cmp}
use Rattle.cat_tables.specs.ReferenceLaws.{both_true, and_true, split, either}
use Rattle.cat_tables.specs.Tables.{same_hash, value_of, are_distinct}
use Rattle.cat_tables.proofs.Places.{same_is}

-- ---- the order of hashes

pub split3 : {P : Type 0} (o : Ordering) → (o ≡ Less → P) → (o ≡ Equal → P) → (o ≡ Greater → P) → P
split3 Less f g h = f refl
split3 Equal f g h = g refl
split3 Greater f g h = h refl

pub less_is : (o : Ordering) → is_lt o ≡ true → o ≡ Less
less_is Less e = refl
less_is Equal e = absurd cc
less_is Greater e = absurd cc

pub hash_total : IsTotalOrder hash_cmp
hash_total = on_texts (λ h. h.bytes)

-- hashes are the same where they compare equal
pub ties : (a b : Hash) → same_hash a b ≡ is_eq (hash_cmp a b)
ties a b = texts_ties a.bytes b.bytes

-- two that are the same as a third are the same
never_both : (a b hash : Hash) → is_eq (hash_cmp a b) ≡ false → is_eq (hash_cmp a hash) ≡ true → is_eq (hash_cmp b hash) ≡ true → ⊥
never_both a b hash other e f =
    let tied : is_eq (hash_cmp a b) ≡ true = ap (λ (h : Hash). is_eq (hash_cmp a h)) (same_is b hash (ties b hash ∙ f)) ∙ e in
    absurd cc

module _ {A : Type 0} where
  exchanged : (b c : Bool) (x y : A) (rest : Option A) → (b ≡ true → c ≡ true → ⊥) → cond b (Some x) (cond c (Some y) rest) ≡ cond c (Some y) (cond b (Some x) rest)
  exchanged true true x y rest never = absurd (never refl refl)
  exchanged true false x y rest never = refl
  exchanged false c x y rest never = refl

  pub absent_parts : (b : Bool) (x : A) (rest : Option A) → cond b (Some x) rest ≡ None → (b ≡ false) × (rest ≡ None)
  absent_parts true x rest e = absurd (none-some x (sym e))
  absent_parts false x rest e = (refl, e)

  kept_front : (b : Bool) (x : A) (all front back : List A) → all ≡ front ++ back → cond b (x ∷ all) all ≡ cond b (x ∷ front) front ++ back
  kept_front true x all front back e = ap (λ (l : List A). x ∷ l) e
  kept_front false x all front back e = e

  pub both_empty : (front back : List A) → front ++ back ≡ [] → (front ≡ []) × (back ≡ [])
  both_empty [] back e = (refl, e)
  both_empty (x ∷ front) back e = absurd cc

module _ {V : Type 0} where
  -- the pairs and one more among them
  pub record IsMore (x : Hash × Placed V) (pairs more : List (Hash × Placed V)) : Type 0 where
    pub front : List (Hash × Placed V)
    pub back : List (Hash × Placed V)
    pub was : pairs ≡ front ++ back
    pub is : more ≡ front ++ x ∷ back

  pub put_more : (hash : Hash) (p : Placed V) (pairs : List (Hash × Placed V)) → ordered.value_of hash_cmp pairs hash ≡ None → IsMore (hash, p) pairs (ordered.after_change hash_cmp (hash, Some p) pairs)
  put_more hash p [] absent = record { front = []; back = []; was = refl; is = refl }
  put_more hash p (x ∷ pairs) absent = split3 (hash_cmp x.0 hash)
      (λ o. let rest = put_more hash p pairs (rw o at absent) in
      record { front = x ∷ rest.front; back = rest.back; was = ap (λ (l : List (Hash × Placed V)). x ∷ l) rest.was; is = rw o (ap (λ (l : List (Hash × Placed V)). x ∷ l) rest.is) })
      (λ o. let there : Some x.1 ≡ None = rw o at absent in absurd (none-some x.1 (sym there)))
      (λ o. record { front = []; back = x ∷ pairs; was = refl; is = rw o refl })

  -- ---- what they hold at a place

  at_both : (i : ℕ) (front back : List (Hash × Placed V)) → at_place i (front ++ back) ≡ at_place i front ++ at_place i back
  at_both i [] back = refl
  at_both i (x ∷ front) back = kept_front (nat_eq x.1.place i) (x.0, x.1.value) (at_place i (front ++ back)) (at_place i front) (at_place i back) (at_both i front back)

  pub at_other : (i : ℕ) (x : Hash × Placed V) (pairs more : List (Hash × Placed V)) → nat_eq x.1.place i ≡ false → IsMore x pairs more → at_place i more ≡ at_place i pairs
  at_other i x pairs more other m =
      ap (at_place i) m.is ∙ at_both i m.front (x ∷ m.back) ∙ rw other refl ∙ sym (at_both i m.front m.back) ∙ ap (at_place i) (sym m.was)

  pub at_own : (i : ℕ) (x : Hash × Placed V) (pairs more : List (Hash × Placed V)) → nat_eq x.1.place i ≡ true → at_place i pairs ≡ [] → IsMore x pairs more → at_place i more ≡ (x.0, x.1.value) ∷ []
  at_own i x pairs more own none m =
      let empty = both_empty (at_place i m.front) (at_place i m.back) (sym (ap (at_place i) m.was ∙ at_both i m.front m.back) ∙ none) in
      ap (at_place i) m.is ∙ at_both i m.front (x ∷ m.back) ∙ rw (own, empty.0, empty.1) refl

  -- no place is so high
  pub none_at : (n i : ℕ) (pairs : List (Hash × Placed V)) → n ≤ i → list_all (λ x. nat_lt x.1.place n) pairs ≡ true → at_place i pairs ≡ []
  none_at n i [] le below = refl
  none_at n i (x ∷ pairs) le below =
      let parts = and_true (nat_lt x.1.place n) (list_all (λ y. nat_lt y.1.place n) pairs) below in
      let other : nat_eq x.1.place i ≡ false = grind (arith, nat_tests) in
      rw other (none_at n i pairs le parts.1)

  pub arrived_alike : (n : ℕ) (pairs more : List (Hash × Placed V)) → ((i : ℕ) → i < n → at_place i more ≡ at_place i pairs) → arrived n more ≡ arrived n pairs
  arrived_alike zero pairs more alike = refl
  arrived_alike (suc n) pairs more alike = (λ j. alike n (omega arith) j ++ arrived_alike n pairs more (λ i lt. alike i (omega (arith, lt))) j)

  -- ---- which there are

  pub more_pass : (p : Hash × Placed V → Bool) (x : Hash × Placed V) (pairs more : List (Hash × Placed V)) → p x ≡ true → list_all p pairs ≡ true → IsMore x pairs more → list_all p more ≡ true
  more_pass p x pairs more e all m =
      let parts = and_true (list_all p m.front) (list_all p m.back) (sym (list_all-append p m.front m.back) ∙ ap (list_all p) (sym m.was) ∙ all) in
      ap (list_all p) m.is ∙ list_all-append p m.front (x ∷ m.back) ∙ both_true _ _ parts.0 (both_true _ _ e parts.1)

  found_among : (x : Hash × Placed V) (front back : List (Hash × Placed V)) (hash : Hash) → ordered.value_of hash_cmp (front ++ back) x.0 ≡ None
      → ordered.value_of hash_cmp (front ++ x ∷ back) hash ≡ cond (is_eq (hash_cmp x.0 hash)) (Some x.1) (ordered.value_of hash_cmp (front ++ back) hash)
  found_among x [] back hash absent = refl
  found_among x (y ∷ front) back hash absent =
      let other = absent_parts (is_eq (hash_cmp y.0 x.0)) y.1 (ordered.value_of hash_cmp (front ++ back) x.0) absent in
      ap (λ (rest : Option (Placed V)). cond (is_eq (hash_cmp y.0 hash)) (Some y.1) rest) (found_among x front back hash other.1)
      ∙ exchanged (is_eq (hash_cmp y.0 hash)) (is_eq (hash_cmp x.0 hash)) y.1 x.1 _ (never_both y.0 x.0 hash other.0)

  pub found_more : (x : Hash × Placed V) (pairs more : List (Hash × Placed V)) (hash : Hash) → ordered.value_of hash_cmp pairs x.0 ≡ None → IsMore x pairs more
      → ordered.value_of hash_cmp more hash ≡ cond (is_eq (hash_cmp x.0 hash)) (Some x.1) (ordered.value_of hash_cmp pairs hash)
  found_more x pairs more hash absent m =
      ap (λ (l : List (Hash × Placed V)). ordered.value_of hash_cmp l hash) m.is
      ∙ found_among x m.front m.back hash (ap (λ (l : List (Hash × Placed V)). ordered.value_of hash_cmp l x.0) (sym m.was) ∙ absent)
      ∙ ap (λ (l : List (Hash × Placed V)). cond (is_eq (hash_cmp x.0 hash)) (Some x.1) (ordered.value_of hash_cmp l hash)) (sym m.was)

  -- ---- each value is found in the order of arrival

  abbrev In : Hash × V → List (Hash × V) → Type 0
  In x [] = ⊥
  In x (y ∷ list) = (x ≡ y) ⊎ In x list

  in_front : (x : Hash × V) (front back : List (Hash × V)) → In x front → In x (front ++ back)
  in_front x [] back at = absurd at
  in_front x (y ∷ front) back (inl e) = inl e
  in_front x (y ∷ front) back (inr at) = inr (in_front x front back at)

  in_back : (x : Hash × V) (front back : List (Hash × V)) → In x back → In x (front ++ back)
  in_back x [] back at = at
  in_back x (y ∷ front) back at = inr (in_back x front back at)

  is_there : (hash : Hash) (value : V) (list : List (Hash × V)) → are_distinct list ≡ true → In (hash, value) list → value_of list hash ≡ Some value
  is_there hash value [] are at = absurd at
  is_there hash value (x ∷ list) are (inl e) =
      let same : same_hash x.0 hash ≡ true = ties x.0 hash ∙ ap (λ (y : Hash × V). is_eq (hash_cmp y.0 hash)) (sym e) ∙ ap is_eq (tied_itself hash_total hash) in
      rw same (ap (λ (y : Hash × V). Some y.1) (sym e))
  is_there hash value (x ∷ list) are (inr at) =
      let parts = and_true (is_none (value_of list x.0)) (are_distinct list) are in
      let rest = is_there hash value list parts.1 at in
      split (same_hash x.0 hash)
      (λ e. let some : is_none (value_of list x.0) ≡ false = ap (λ (h : Hash). is_none (value_of list h)) (same_is x.0 hash e) ∙ ap is_none rest in let none = parts.0 in absurd cc)
      (λ e. rw e rest)

  some_in : (hash : Hash) (p : Placed V) (pairs : List (Hash × Placed V)) → ordered.value_of hash_cmp pairs hash ≡ Some p → In (hash, p.value) (at_place p.place pairs)
  some_in hash p [] e = absurd (none-some p e)
  some_in hash p (x ∷ pairs) e = split (is_eq (hash_cmp x.0 hash))
      (λ h.
      let one : x.1 ≡ p = let found : Some x.1 ≡ Some p = rw h at e in cc in
      let own : nat_eq x.1.place p.place ≡ true = ap (λ (q : Placed V). nat_eq q.place p.place) one ∙ grind (arith, nat_tests) in
      rw own (inl (λ i. (sym (same_is x.0 hash (ties x.0 hash ∙ h)) i, (sym one i).value))))
      (λ h.
      let rest = some_in hash p pairs (rw h at e) in
      either (λ (l : List (Hash × V)). In (hash, p.value) l) (nat_eq x.1.place p.place) _ _ (λ k. inr rest) (λ k. rest))

  in_arrived : (x : Hash × V) (i n : ℕ) (pairs : List (Hash × Placed V)) → i < n → In x (at_place i pairs) → In x (arrived n pairs)
  in_arrived x i zero pairs lt at = absurd (omega (arith, lt))
  in_arrived x i (suc n) pairs lt at = split (nat_eq i n)
      (λ e. in_front x (at_place n pairs) (arrived n pairs) (subst (λ (k : ℕ). In x (at_place k pairs)) (grind (arith, nat_tests)) at))
      (λ e. in_back x (at_place n pairs) (arrived n pairs) (in_arrived x i n pairs (grind (arith, nat_tests)) at))

  place_below : (n : ℕ) (hash : Hash) (p : Placed V) (pairs : List (Hash × Placed V)) → list_all (λ x. nat_lt x.1.place n) pairs ≡ true → ordered.value_of hash_cmp pairs hash ≡ Some p → p.place < n
  place_below n hash p [] below e = absurd (none-some p e)
  place_below n hash p (x ∷ pairs) below e =
      let parts = and_true (nat_lt x.1.place n) (list_all (λ y. nat_lt y.1.place n) pairs) below in
      split (is_eq (hash_cmp x.0 hash))
      (λ h.
      let one : x.1 ≡ p = let found : Some x.1 ≡ Some p = rw h at e in cc in
      let here : nat_lt p.place n ≡ true = ap (λ (q : Placed V). nat_lt q.place n) (sym one) ∙ parts.0 in
      grind (arith, nat_tests))
      (λ h. place_below n hash p pairs parts.1 (rw h at e))

  none_both : (front back : List (Hash × V)) (hash : Hash) → value_of front hash ≡ None → value_of back hash ≡ None → value_of (front ++ back) hash ≡ None
  none_both [] back hash e f = f
  none_both (x ∷ front) back hash e f = let parts = absent_parts (same_hash x.0 hash) x.1 (value_of front hash) e in rw parts.0 (none_both front back hash parts.1 f)

  none_here : (i : ℕ) (hash : Hash) (pairs : List (Hash × Placed V)) → ordered.value_of hash_cmp pairs hash ≡ None → value_of (at_place i pairs) hash ≡ None
  none_here i hash [] e = refl
  none_here i hash (x ∷ pairs) e =
      let parts = absent_parts (is_eq (hash_cmp x.0 hash)) x.1 (ordered.value_of hash_cmp pairs hash) e in
      let rest = none_here i hash pairs parts.1 in
      let other : same_hash x.0 hash ≡ false = ties x.0 hash ∙ parts.0 in
      either (λ (l : List (Hash × V)). value_of l hash ≡ None) (nat_eq x.1.place i) _ _ (λ k. rw other rest) (λ k. rest)

  none_arrived : (n : ℕ) (hash : Hash) (pairs : List (Hash × Placed V)) → ordered.value_of hash_cmp pairs hash ≡ None → value_of (arrived n pairs) hash ≡ None
  none_arrived zero hash pairs e = refl
  none_arrived (suc n) hash pairs e = none_both (at_place n pairs) (arrived n pairs) hash (none_here n hash pairs e) (none_arrived n hash pairs e)

  pub found_of : (n : ℕ) (pairs : List (Hash × Placed V)) (hash : Hash) → list_all (λ x. nat_lt x.1.place n) pairs ≡ true → are_distinct (arrived n pairs) ≡ true
      → value_of (arrived n pairs) hash ≡ option_map (λ p. p.value) (ordered.value_of hash_cmp pairs hash)
  found_of n pairs hash below are = by (ordered.value_of hash_cmp pairs hash) refl
    where
      by : (found : Option (Placed V)) → ordered.value_of hash_cmp pairs hash ≡ found → value_of (arrived n pairs) hash ≡ option_map (λ p. p.value) (ordered.value_of hash_cmp pairs hash)
      by None e = rw e (none_arrived n hash pairs e)
      by (Some p) e = rw e (is_there hash p.value (arrived n pairs) are (in_arrived (hash, p.value) p.place n pairs (place_below n hash p pairs below e) (some_in hash p pairs e)))

  -- ---- what is known of a table

  pub below_more : (n m : ℕ) (pairs : List (Hash × Placed V)) → n ≤ m → list_all (λ x. nat_lt x.1.place n) pairs ≡ true → list_all (λ x. nat_lt x.1.place m) pairs ≡ true
  below_more n m [] le below = refl
  below_more n m (x ∷ pairs) le below =
      let parts = and_true (nat_lt x.1.place n) (list_all (λ y. nat_lt y.1.place n) pairs) below in
      let lower : nat_lt x.1.place m ≡ true = grind (arith, nat_tests) in
      both_true _ _ lower (below_more n m pairs le parts.1)

  none_mapped : (f : Placed V → V) (o : Option (Placed V)) → option_map f o ≡ None → o ≡ None
  none_mapped f None e = refl
  none_mapped f (Some p) e = absurd (none-some (f p) (sym e))

  pub absent_there : (hash : Hash) (n : ℕ) (pairs : List (Hash × Placed V)) → IsPlaced n pairs → value_of (arrived n pairs) hash ≡ None → ordered.value_of hash_cmp pairs hash ≡ None
  absent_there hash n pairs are absent = none_mapped (λ p. p.value) _ (sym (found_of n pairs hash are.below are.distinct) ∙ absent)

  none_arrives : (n : ℕ) (none : List (Hash × V)) → none ≡ [] → arrived n [] ≡ none
  none_arrives zero none e = sym e
  none_arrives (suc n) none e = none_arrives n none e

  -- one value more, at a place below their number
  one_arrives : (n : ℕ) (x : Hash × Placed V) (pairs : List (Hash × Placed V)) → x.1.place < n → length (arrived n (x ∷ pairs)) ≡ suc (length (arrived n pairs))
  one_arrives zero x pairs lt = absurd (omega (arith, lt))
  one_arrives (suc n) x pairs lt =
      let all = length-append (at_place n pairs) (arrived n pairs) in
      split (nat_eq x.1.place n)
      (λ e.
      let same : arrived n (x ∷ pairs) ≡ arrived n pairs = arrived_alike n pairs (x ∷ pairs) (λ i below. let other : nat_eq x.1.place i ≡ false = grind (arith, nat_tests) in rw other refl) in
      rw (e, same) refl)
      (λ e.
      let more = one_arrives n x pairs (grind (arith, nat_tests)) in
      let whole = length-append (at_place n pairs) (arrived n (x ∷ pairs)) in
      rw e (omega (arith, all, whole, more)))

  -- as many values come as there are
  pub all_arrive : (n : ℕ) (pairs : List (Hash × Placed V)) → list_all (λ x. nat_lt x.1.place n) pairs ≡ true → length (arrived n pairs) ≡ length pairs
  all_arrive n [] below = ap length (none_arrives n [] refl)
  all_arrive n (x ∷ pairs) below =
      let parts = and_true (nat_lt x.1.place n) (list_all (λ y. nat_lt y.1.place n) pairs) below in
      one_arrives n x pairs (grind (arith, nat_tests)) ∙ ap suc (all_arrive n pairs parts.1)
