-- Values of tables by their hashes, and at the places at which they came.
use Rattle.std.proofs.Common.{◌≡◌, ℕ, zero, suc, ◌<◌, ◌≤◌, List, [], ◌∷◌, ◌++◌, Option, Some, None, Bool, true, false, cond, length, get_or, reverse, map, take, drop, flat_map, append_assoc, ◌+◌, Bor, nat_eq, nat_lt, refl, sym, ap, subst, ◌∙◌, arith}
use Rattle.std.proofs.Math.ListN.{set, replicate}
use Rattle.std.proofs.Math.Seq.{take-suc, take-length}
use Rattle.std.proofs.lemmas.Bool.Decides.{nat_tests}
use Rattle.std.proofs.lemmas.Grind.{flat_map-append}
use Rattle.std.proofs.lemmas.List.{append-nil, reverse-append, length-replicate, length-set, get_or-replicate, get_or_past, get_or-set_same, get_or-set_other, length-map, map-set, map-append, drop_more}
use Rattle.std.proofs.lemmas.Option.{none-some}
use Rattle.std.specs.Cmp.{tied_itself}
use Rattle.std.specs.List.{list_all}
use Rattle.std.specs.Option.{option_map, option_or}
use Rattle.std.specs.Ordering.{is_eq, is_lt, ordering_reverse}
use Rattle.std.specs.Prelude.{fold}
use Rattle.std.specs.declared.cmp.Ordering.{Ordering}
use Rattle.std.specs.declared.cmp.Ordering.TheVariants.{Less, Equal, Greater}
use Rattle.cat_codes.specs.Code.{follows, ascends}
use Rattle.cat_model.specs.KeySets.{with_one}
use Rattle.cat_names.specs.declared.hash.Hash.{Hash}
use Rattle.cat_ordered.specs.Maps as ordered
use Rattle.cat_tables.specs.declared.table.Placed.{Placed}
use Rattle.cat_tables.specs.Arrivals.{at_place, arrived, IsPlaced}
use Rattle.cat_tables.specs.HashOrder.{hash_cmp}
use Rattle.cat_tables.specs.ReferenceLaws.{both_true, and_true, split}
use Rattle.cat_tables.specs.Sorted.{sorted, as_pair, if_there, AreAtPlaces}
use Rattle.cat_tables.specs.Tables.{value_of}
use Rattle.cat_tables.proofs.Arriving.{split3, less_is, hash_total, ties, found_of}
use Rattle.cat_tables.proofs.Places.{same_is}
use Rattle.cat_tables.proofs.Removals.{ascends_lower}

-- ---- one or the other

module _ {A : Type 0} where
  or_none : (o : Option A) → option_or o None ≡ o
  or_none None = refl
  or_none (Some x) = refl

  or_assoc : (a b c : Option A) → option_or (option_or a b) c ≡ option_or a (option_or b c)
  or_assoc None b c = refl
  or_assoc (Some x) b c = refl

  or_last : (b : Bool) (v : A) (rest : Option A) → (b ≡ true → rest ≡ None) → cond b (Some v) rest ≡ option_or rest (cond b (Some v) None)
  or_last true v rest none = sym (ap (λ (o : Option A). option_or o (Some v)) (none refl))
  or_last false v rest none = sym (or_none rest)

  or_same : (b c : Bool) (v w : A) (rest : Option A) → b ≡ c → cond b (Some v) rest ≡ option_or (cond b (Some v) rest) (cond c (Some w) None)
  or_same true c v w rest e = refl
  or_same false true v w rest e = absurd cc
  or_same false false v w rest e = sym (or_none rest)

  or_first : (b : Bool) (v : A) (rest other : Option A) → cond b (Some v) (option_or rest other) ≡ option_or (cond b (Some v) rest) other
  or_first true v rest other = refl
  or_first false v rest other = refl

-- ---- pairs by ascending hashes

module _ {A : Type 0} where
  abbrev by_hash : Hash × A → Hash × A → Ordering
  by_hash x y = hash_cmp x.0 y.0

  head_tail : (last : Option Hash) (x : Hash × A) (xs : List (Hash × A)) → ascends hash_cmp last (x ∷ xs) ≡ true → (follows hash_cmp last x.0 ≡ true) × (ascends hash_cmp (Some x.0) xs ≡ true)
  head_tail last x xs up = and_true (follows hash_cmp last x.0) (ascends hash_cmp (Some x.0) xs) up

  -- a hash below all has nothing
  none_above : (hash y : Hash) (xs : List (Hash × A)) → hash_cmp hash y ≡ Less → ascends hash_cmp (Some y) xs ≡ true → ordered.value_of hash_cmp xs hash ≡ None
  none_above hash y [] lt up = refl
  none_above hash y (z ∷ xs) lt up =
      let a = head_tail (Some y) z xs up in
      let above : hash_cmp hash z.0 ≡ Less = hash_total.trans hash y z.0 lt (less_is _ a.0) in
      let greater : hash_cmp z.0 hash ≡ Greater = hash_total.antisymm z.0 hash ∙ ap ordering_reverse above in
      rw greater (none_above hash z.0 xs above a.1)

  none_past : (hash : Hash) (xs : List (Hash × A)) → ascends hash_cmp (Some hash) xs ≡ true → ordered.value_of hash_cmp xs hash ≡ None
  none_past hash [] up = refl
  none_past hash (z ∷ xs) up =
      let a = head_tail (Some hash) z xs up in
      let above : hash_cmp hash z.0 ≡ Less = less_is _ a.0 in
      let greater : hash_cmp z.0 hash ≡ Greater = hash_total.antisymm z.0 hash ∙ ap ordering_reverse above in
      rw greater (none_above hash z.0 xs above a.1)

  not_first : (hash : Hash) (y : Hash × A) (ys : List (Hash × A)) → hash_cmp hash y.0 ≡ Less → ascends hash_cmp (Some y.0) ys ≡ true → ordered.value_of hash_cmp (y ∷ ys) hash ≡ None
  not_first hash y ys lt up =
      let greater : hash_cmp y.0 hash ≡ Greater = hash_total.antisymm y.0 hash ∙ ap ordering_reverse lt in
      rw greater (none_above hash y.0 ys lt up)

  first_found : (x : Hash × A) (xs : List (Hash × A)) → ordered.value_of hash_cmp (x ∷ xs) x.0 ≡ Some x.1
  first_found x xs = let same : hash_cmp x.0 x.0 ≡ Equal = tied_itself hash_total x.0 in rw same refl

  same_tail : (hash : Hash) (x y : Hash × A) (xs ys : List (Hash × A)) → x.0 ≡ y.0 → ascends hash_cmp (Some x.0) xs ≡ true → ascends hash_cmp (Some y.0) ys ≡ true
      → ordered.value_of hash_cmp (x ∷ xs) hash ≡ ordered.value_of hash_cmp (y ∷ ys) hash → ordered.value_of hash_cmp xs hash ≡ ordered.value_of hash_cmp ys hash
  same_tail hash x y xs ys key u v same = split (is_eq (hash_cmp x.0 hash))
      (λ e.
      let at : x.0 ≡ hash = same_is x.0 hash (ties x.0 hash ∙ e) in
      none_past hash xs (subst (λ (h : Hash). ascends hash_cmp (Some h) xs ≡ true) at u) ∙ sym (none_past hash ys (subst (λ (h : Hash). ascends hash_cmp (Some h) ys ≡ true) (sym key ∙ at) v)))
      (λ e.
      let other : is_eq (hash_cmp y.0 hash) ≡ false = ap (λ (h : Hash). is_eq (hash_cmp h hash)) (sym key) ∙ e in
      sym (ap (λ (b : Bool). cond b (Some x.1) (ordered.value_of hash_cmp xs hash)) e) ∙ same ∙ ap (λ (b : Bool). cond b (Some y.1) (ordered.value_of hash_cmp ys hash)) other)

  -- pairs that ascend are told by what each hash has
  one_list : (xs ys : List (Hash × A)) → ascends hash_cmp None xs ≡ true → ascends hash_cmp None ys ≡ true
      → ((hash : Hash) → ordered.value_of hash_cmp xs hash ≡ ordered.value_of hash_cmp ys hash) → xs ≡ ys
  one_list [] [] u v same = refl
  one_list [] (y ∷ ys) u v same = absurd (none-some y.1 (same y.0 ∙ first_found y ys))
  one_list (x ∷ xs) [] u v same = absurd (none-some x.1 (sym (same x.0) ∙ first_found x xs))
  one_list (x ∷ xs) (y ∷ ys) u v same =
      let a = (head_tail None x xs u).1 in
      let b = (head_tail None y ys v).1 in
      split3 (hash_cmp x.0 y.0)
      (λ o. absurd (none-some x.1 (sym (not_first x.0 y ys o b) ∙ sym (same x.0) ∙ first_found x xs)))
      (λ o.
      let key : x.0 ≡ y.0 = same_is x.0 y.0 (ties x.0 y.0 ∙ ap is_eq o) in
      let found : Some x.1 ≡ Some y.1 = sym (first_found x xs) ∙ same x.0 ∙ ap (ordered.value_of hash_cmp (y ∷ ys)) key ∙ first_found y ys in
      let value : x.1 ≡ y.1 = cc in
      let rest : xs ≡ ys = one_list xs ys (ascends_lower x.0 None xs refl a) (ascends_lower y.0 None ys refl b) (λ hash. same_tail hash x y xs ys key a b (same hash)) in
      λ i. (key i, value i) ∷ rest i)
      (λ o.
      let lower : hash_cmp y.0 x.0 ≡ Less = hash_total.antisymm y.0 x.0 ∙ ap ordering_reverse o in
      absurd (none-some y.1 (sym (not_first y.0 x xs lower a) ∙ same y.0 ∙ first_found y ys)))

  -- ---- one pair after another, each put where it belongs

  rise_with : (last : Option Hash) (x : Hash × A) (xs : List (Hash × A)) → follows hash_cmp last x.0 ≡ true → ascends hash_cmp last xs ≡ true → ascends hash_cmp last (with_one by_hash xs x) ≡ true
  rise_with last x [] f up = both_true _ _ f refl
  rise_with last x (y ∷ ys) f up =
      let a = head_tail last y ys up in
      split3 (hash_cmp x.0 y.0)
      (λ o. let l : is_lt (hash_cmp x.0 y.0) ≡ true = ap is_lt o in rw o (both_true _ _ f (both_true _ _ l a.1)))
      (λ o. rw o up)
      (λ o. let l : is_lt (hash_cmp y.0 x.0) ≡ true = ap is_lt (hash_total.antisymm y.0 x.0 ∙ ap ordering_reverse o) in rw o (both_true _ _ a.0 (rise_with (Some y.0) x ys l a.1)))

  rise_fold : (acc list : List (Hash × A)) → ascends hash_cmp None acc ≡ true → ascends hash_cmp None (fold (with_one by_hash) acc list) ≡ true
  rise_fold acc [] up = up
  rise_fold acc (x ∷ list) up = rise_fold (with_one by_hash acc x) list (rise_with None x acc refl up)

  found_with : (last : Option Hash) (x : Hash × A) (xs : List (Hash × A)) (hash : Hash) → ascends hash_cmp last xs ≡ true
      → ordered.value_of hash_cmp (with_one by_hash xs x) hash ≡ option_or (ordered.value_of hash_cmp xs hash) (cond (is_eq (hash_cmp x.0 hash)) (Some x.1) None)
  found_with last x [] hash up = refl
  found_with last x (y ∷ ys) hash up =
      let a = head_tail last y ys up in
      let there = ordered.value_of hash_cmp ys hash in
      split3 (hash_cmp x.0 y.0)
      (λ o. rw o (or_last (is_eq (hash_cmp x.0 hash)) x.1 (ordered.value_of hash_cmp (y ∷ ys) hash)
      (λ e. subst (λ (h : Hash). ordered.value_of hash_cmp (y ∷ ys) h ≡ None) (same_is x.0 hash (ties x.0 hash ∙ e)) (not_first x.0 y ys o a.1))))
      (λ o. rw o (or_same (is_eq (hash_cmp y.0 hash)) (is_eq (hash_cmp x.0 hash)) y.1 x.1 there (ap is_eq (sym (hash_total.congr x.0 y.0 hash o)))))
      (λ o. rw o (ap (λ (rest : Option A). cond (is_eq (hash_cmp y.0 hash)) (Some y.1) rest) (found_with (Some y.0) x ys hash a.1)
      ∙ or_first (is_eq (hash_cmp y.0 hash)) y.1 there (cond (is_eq (hash_cmp x.0 hash)) (Some x.1) None)))

  found_fold : (acc list : List (Hash × A)) (hash : Hash) → ascends hash_cmp None acc ≡ true
      → ordered.value_of hash_cmp (fold (with_one by_hash) acc list) hash ≡ option_or (ordered.value_of hash_cmp acc hash) (ordered.value_of hash_cmp list hash)
  found_fold acc [] hash up = sym (or_none (ordered.value_of hash_cmp acc hash))
  found_fold acc (x ∷ list) hash up =
      let one = cond (is_eq (hash_cmp x.0 hash)) (Some x.1) None in
      let others = ordered.value_of hash_cmp list hash in
      found_fold (with_one by_hash acc x) list hash (rise_with None x acc refl up)
      ∙ ap (λ (found : Option A). option_or found others) (found_with None x acc hash up)
      ∙ or_assoc (ordered.value_of hash_cmp acc hash) one others
      ∙ ap (option_or (ordered.value_of hash_cmp acc hash)) (sym (or_first (is_eq (hash_cmp x.0 hash)) x.1 None others))

  value_alike : (list : List (Hash × A)) (hash : Hash) → value_of list hash ≡ ordered.value_of hash_cmp list hash
  value_alike [] hash = refl
  value_alike (x ∷ list) hash = λ i. cond (ties x.0 hash i) (Some x.1) (value_alike list hash i)

module _ {V : Type 0} where
  -- ---- a walk

  abbrev plain : List (Hash × Placed V) → List (Hash × V)
  plain placed = map (λ x. (x.0, x.1.value)) placed

  plain_ascend : (last : Option Hash) (placed : List (Hash × Placed V)) → ascends hash_cmp last placed ≡ true → ascends hash_cmp last (plain placed) ≡ true
  plain_ascend last [] up = refl
  plain_ascend last (x ∷ placed) up = let a = head_tail last x placed up in both_true _ _ a.0 (plain_ascend (Some x.0) placed a.1)

  plain_found : (placed : List (Hash × Placed V)) (hash : Hash) → ordered.value_of hash_cmp (plain placed) hash ≡ option_map (λ p. p.value) (ordered.value_of hash_cmp placed hash)
  plain_found [] hash = refl
  plain_found (x ∷ placed) hash =
      ap (λ (rest : Option V). cond (is_eq (hash_cmp x.0 hash)) (Some x.1.value) rest) (plain_found placed hash) ∙ mapped (is_eq (hash_cmp x.0 hash)) x.1 (ordered.value_of hash_cmp placed hash)
    where
      mapped : (b : Bool) (p : Placed V) (rest : Option (Placed V)) → cond b (Some p.value) (option_map (λ q. q.value) rest) ≡ option_map (λ q. q.value) (cond b (Some p) rest)
      mapped true p rest = refl
      mapped false p rest = refl

  -- the values of a map by ascending hashes are the table's, sorted
  pub walk_is : (n : ℕ) (placed : List (Hash × Placed V)) → IsPlaced n placed → ascends hash_cmp None placed ≡ true → map (λ x. (x.0, x.1.value)) placed ≡ sorted (arrived n placed)
  walk_is n placed are up =
      let list = arrived n placed in
      one_list (plain placed) (fold (with_one by_hash) [] list) (plain_ascend None placed up) (rise_fold [] list refl)
      (λ hash. plain_found placed hash ∙ sym (found_of n placed hash are.below are.distinct) ∙ value_alike list hash ∙ sym (found_fold [] list hash refl))

  -- ---- places that are filled one by one

  -- what stands at the places, and what is still to come, are all
  pub record IsFilling (n : ℕ) (slots : List (Option (Hash × V))) (rest placed : List (Hash × Placed V)) : Type 0 where
    pub long : length slots ≡ n
    pub below : list_all (λ x. nat_lt x.1.place n) rest ≡ true
    pub at : (i : ℕ) → if_there (get_or slots i None) ++ at_place i rest ≡ at_place i placed

  abbrev no_slot : Option (Hash × V)
  no_slot = None

  none_there : (n i : ℕ) → get_or (replicate n no_slot) i no_slot ≡ no_slot
  none_there n i = split (nat_lt i n)
      (λ e. get_or-replicate n i no_slot no_slot (grind (arith, nat_tests)))
      (λ e. let size = length-replicate n no_slot in get_or_past (replicate n no_slot) i no_slot (grind (arith, nat_tests)))

  pub filling_begins : (n : ℕ) (slots : List (Option (Hash × V))) (placed : List (Hash × Placed V)) → IsPlaced n placed → slots ≡ replicate n None → IsFilling n slots placed placed
  filling_begins n slots placed are is = record {
    long = ap length is ∙ length-replicate n no_slot;
    below = are.below;
    at = λ i. ap (λ (s : Option (Hash × V)). if_there s ++ at_place i placed) (ap (λ (l : List (Option (Hash × V))). get_or l i no_slot) is ∙ none_there n i);
  }

  alone_there : (s : Option (Hash × V)) (y : Hash × V) (rest all : List (Hash × V)) → if_there s ++ y ∷ rest ≡ all → length all ≤ 1 → (y ∷ [] ≡ all) × (rest ≡ [])
  alone_there None y [] all e few = (e, refl)
  alone_there None y (z ∷ rest) all e few = let size = ap length e in absurd (omega (arith, size, few))
  alone_there (Some x) y rest all e few = let size = ap length e in absurd (omega (arith, size, few))

  pub filling_goes : (n : ℕ) (slots more : List (Option (Hash × V))) (x : Hash × Placed V) (rest placed : List (Hash × Placed V)) → IsPlaced n placed → IsFilling n slots (x ∷ rest) placed
      → more ≡ set slots x.1.place (Some (x.0, x.1.value)) → IsFilling n more rest placed
  filling_goes n slots more x rest placed are f is =
      let y : Hash × V = (x.0, x.1.value) in
      let p = x.1.place in
      let parts = and_true (nat_lt p n) (list_all (λ z. nat_lt z.1.place n) rest) f.below in
      let size = f.long in
      let first = parts.0 in
      let within : p < length slots = grind (arith, nat_tests) in
      let own : nat_eq p p ≡ true = grind (arith, nat_tests) in
      record {
        long = ap length is ∙ length-set slots p (Some y) ∙ f.long;
        below = parts.1;
        at = λ i. split (nat_eq p i)
            (λ e.
            let same : p ≡ i = grind (arith, nat_tests) in
            subst (λ (k : ℕ). if_there (get_or more k None) ++ at_place k rest ≡ at_place k placed) same
            (let s = get_or slots p None in
            let was = alone_there s y (at_place p rest) (at_place p placed) (sym (ap (λ (b : Bool). if_there s ++ cond b (y ∷ at_place p rest) (at_place p rest)) own) ∙ f.at p) (are.alone p) in
            ap (λ (l : List (Option (Hash × V))). if_there (get_or l p None) ++ at_place p rest) is
            ∙ ap (λ (o : Option (Hash × V)). if_there o ++ at_place p rest) (get_or-set_same slots p (Some y) None within)
            ∙ ap (λ (l : List (Hash × V)). y ∷ l) was.1 ∙ was.0))
            (λ e.
            let apart : i ≡ p → ⊥ = λ h. let same : nat_eq p i ≡ true = ap (λ (k : ℕ). nat_eq p k) h ∙ own in absurd cc in
            let s = get_or slots i None in
            ap (λ (l : List (Option (Hash × V))). if_there (get_or l i None) ++ at_place i rest) is
            ∙ ap (λ (o : Option (Hash × V)). if_there o ++ at_place i rest) (get_or-set_other slots p i (Some y) None apart)
            ∙ sym (ap (λ (b : Bool). if_there s ++ cond b (y ∷ at_place i rest) (at_place i rest)) e) ∙ f.at i);
      }

  few_reversed : (l : List (Hash × V)) → length l ≤ 1 → l ≡ reverse l
  few_reversed [] few = refl
  few_reversed (x ∷ []) few = refl
  few_reversed (x ∷ y ∷ l) few = absurd (omega (arith, few))

  up_to : (n k : ℕ) (slots : List (Option (Hash × V))) (placed : List (Hash × Placed V)) → IsPlaced n placed → IsFilling n slots [] placed → k ≤ n → flat_map if_there (take k slots) ≡ reverse (arrived k placed)
  up_to n zero slots placed are f le = refl
  up_to n (suc k) slots placed are f le =
      let size = f.long in
      let s = get_or slots k None in
      let here : if_there s ≡ reverse (at_place k placed) = sym (append-nil (if_there s)) ∙ f.at k ∙ few_reversed (at_place k placed) (are.alone k) in
      ap (flat_map if_there) (take-suc slots k None (omega (arith, size, le)))
      ∙ flat_map-append if_there (take k slots) (s ∷ [])
      ∙ ap (λ (l : List (Hash × V)). flat_map if_there (take k slots) ++ l) (append-nil (if_there s) ∙ here)
      ∙ ap (λ (l : List (Hash × V)). l ++ reverse (at_place k placed)) (up_to n k slots placed are f (omega (arith, le)))
      ∙ sym (reverse-append (at_place k placed) (arrived k placed))

  pub filling_ends : (n : ℕ) (slots : List (Option (Hash × V))) (rest placed : List (Hash × Placed V)) → IsPlaced n placed → IsFilling n slots rest placed → rest ≡ [] → AreAtPlaces slots (arrived n placed)
  filling_ends n slots rest placed are f none =
      let g = subst (λ (l : List (Hash × Placed V)). IsFilling n slots l placed) none f in
      let size = f.long in
      ap (flat_map if_there) (sym (take-length slots) ∙ ap (λ (k : ℕ). take k slots) f.long) ∙ up_to n n slots placed are g (omega arith)

  -- ---- what is read of a map one after another, and put at the places

  first_is : (xs : List (Hash × Placed V)) (x : Hash × Placed V) → Some x ≡ ordered.first_of xs → xs ≡ x ∷ drop 1 xs
  first_is [] x e = absurd (none-some x (sym e))
  first_is (y ∷ xs) x e = let same : x ≡ y = cc in ap (λ (z : Hash × Placed V). z ∷ xs) (sym same)

  none_first : (xs : List (Hash × Placed V)) → None ≡ ordered.first_of xs → xs ≡ []
  none_first [] e = refl
  none_first (y ∷ xs) e = absurd (none-some y e)

  -- empty places are as many as their number says
  pub size_of : (slots : List (Option (Bor Hash × Bor V))) (m : ℕ) → map as_pair slots ≡ replicate m None → length slots ≡ m
  size_of slots m empty = sym (length-map slots as_pair) ∙ ap length empty ∙ length-replicate m no_slot

  pub fills_from : (n m : ℕ) (slots : List (Option (Bor Hash × Bor V))) (placed walk : List (Hash × Placed V)) → IsPlaced n placed → walk ≡ placed → m ≡ n → map as_pair slots ≡ replicate m None
      → IsFilling (length slots) (map as_pair slots) walk walk
  fills_from n m slots placed walk are is all empty =
      let none : map as_pair slots ≡ replicate n None = empty ∙ ap (λ (k : ℕ). replicate k None) all in
      subst (λ (k : ℕ). IsFilling k (map as_pair slots) walk walk) (sym (size_of slots m empty ∙ all))
      (subst (λ (l : List (Hash × Placed V)). IsFilling n (map as_pair slots) l l) (sym is) (filling_begins n (map as_pair slots) placed are none))

  pub fills_on : (n k : ℕ) (slots : List (Option (Bor Hash × Bor V))) (r : Bor Hash × Bor V) (x : Hash × Placed V) (at : ℕ) (was rest placed walk : List (Hash × Placed V)) → IsPlaced n placed → walk ≡ placed → k ≡ n
      → IsFilling k (map as_pair slots) was walk → Some x ≡ ordered.first_of was → rest ≡ drop 1 was → at ≡ x.1.place → as_pair (Some r) ≡ Some (x.0, x.1.value)
      → IsFilling k (map as_pair (set slots at (Some r))) rest walk
  fills_on n k slots r x at was rest placed walk are is all f first left place value =
      let g = subst (λ (l : List (Hash × Placed V)). IsFilling k (map as_pair slots) l walk) (first_is was x first ∙ ap (λ (l : List (Hash × Placed V)). x ∷ l) (sym left)) f in
      let held = subst (λ (l : List (Hash × Placed V)). IsPlaced k l) (sym is) (subst (λ (j : ℕ). IsPlaced j placed) (sym all) are) in
      filling_goes k (map as_pair slots) _ x rest walk held g (map-set as_pair slots at (Some r) ∙ (λ i. set (map as_pair slots) (place i) (value i)))

  pub fills_all : (n k : ℕ) (slots : List (Option (Hash × V))) (rest placed walk : List (Hash × Placed V)) (list : List (Hash × V)) → IsPlaced n placed → walk ≡ placed → k ≡ n → IsFilling k slots rest walk
      → None ≡ ordered.first_of rest → arrived n placed ≡ list → AreAtPlaces slots list
  fills_all n k slots rest placed walk list are is all f none view =
      let held = subst (λ (l : List (Hash × Placed V)). IsPlaced k l) (sym is) (subst (λ (j : ℕ). IsPlaced j placed) (sym all) are) in
      filling_ends k slots rest walk held f (none_first rest none) ∙ ap reverse ((λ i. arrived (all i) (is i)) ∙ view)

  -- ---- the places, read one after another

  abbrev seen : Bor Hash × Bor V → Hash × V
  seen x = (x.0.now, x.1.now)

  seen_there : (s : Option (Bor Hash × Bor V)) → map seen (if_there s) ≡ if_there (as_pair s)
  seen_there None = refl
  seen_there (Some x) = refl

  pub slot_read : (pairs more : List (Bor Hash × Bor V)) (slots : List (Option (Bor Hash × Bor V))) (i : ℕ) (s : Option (Bor Hash × Bor V)) (list : List (Hash × V)) → more ≡ pairs ++ if_there s → i < length slots → s ≡ get_or slots i s
      → map seen pairs ++ flat_map if_there (map as_pair (drop i slots)) ≡ list → map seen more ++ flat_map if_there (map as_pair (drop (i + 1) slots)) ≡ list
  slot_read pairs more slots i s list added lt is was =
      let rest = flat_map if_there (map as_pair (drop (i + 1) slots)) in
      let next : drop i slots ≡ s ∷ drop (i + 1) slots = drop_more slots i s lt ∙ ap (λ (o : Option (Bor Hash × Bor V)). o ∷ drop (i + 1) slots) (sym is) in
      ap (λ (l : List (Hash × V)). l ++ rest) (ap (map seen) added ∙ map-append seen pairs (if_there s) ∙ ap (λ (l : List (Hash × V)). map seen pairs ++ l) (seen_there s))
      ∙ append_assoc (map seen pairs) (if_there (as_pair s)) rest
      ∙ ap (λ (l : List (Option (Bor Hash × Bor V))). map seen pairs ++ flat_map if_there (map as_pair l)) (sym next) ∙ was
