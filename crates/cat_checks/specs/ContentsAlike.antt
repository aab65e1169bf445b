-- Records each of which is there once, of two lists that have the same under each hash: there are as many, and so there are of those that stay by their hashes.
use Rattle.std.proofs.Common.{◌≡◌, ◌≤◌, ℕ, suc, Bool, true, false, not, ◌&&◌, if◌then◌else◌, List, [], ◌∷◌, length, filter, Option, Some, None, is_none, refl, sym, ap, subst, ◌∙◌, arith}
use Rattle.std.proofs.lemmas.Option.{none-some}
use Rattle.std.specs.Cmp.Lexicographic.{bytes_decides}
use Rattle.cat_names.specs.declared.hash.Hash.{Hash}
use Rattle.cat_tables.specs.ReferenceLaws.{and_true, both_true, split}
use Rattle.cat_tables.specs.Tables.{are_distinct, same_hash, value_of}

pub hash_same : (a b : Hash) → same_hash a b ≡ true → a ≡ b
hash_same a b is = ap (λ (bytes : List ℕ). let hash : Hash = record { bytes = bytes } in hash) ((bytes_decides a.bytes b.bytes).0 is)

pub hash_itself : (a : Hash) → same_hash a a ≡ true
hash_itself a = (bytes_decides a.bytes a.bytes).1 refl

hash_back : (a b : Hash) → same_hash a b ≡ false → same_hash b a ≡ false
hash_back a b other = split (same_hash b a)
    (λ is. let no : true ≡ false = sym (hash_itself a) ∙ subst (λ (h : Hash). same_hash a h ≡ false) (hash_same b a is) other in absurd cc)
    (λ is. is)

pub no_value : {V : Type 0} (o : Option V) → is_none o ≡ true → o ≡ None
no_value None is = refl
no_value (Some x) is = absurd cc

abbrev is_other : Hash → Hash → Bool
is_other gone hash = not (same_hash hash gone)

module _ {V : Type 0} where
  -- the same under each hash
  abbrev pub AreFoundAlike : List (Hash × V) → List (Hash × V) → Type 0
  AreFoundAlike xs ys = (hash : Hash) → value_of ys hash ≡ value_of xs hash

  -- ---- those that stay

  -- those whose hash passes a test
  abbrev pub staying : (Hash → Bool) → List (Hash × V) → List (Hash × V)
  staying test xs = filter (λ x. test x.0) xs

  abbrev or_none : Bool → Option V → Option V
  or_none stays found = if stays then found else None

  none_either : (stays : Bool) → or_none stays None ≡ None
  none_either true = refl
  none_either false = refl

  -- what is found among them
  pub found_staying : (test : Hash → Bool) (xs : List (Hash × V)) (hash : Hash) → value_of (staying test xs) hash ≡ or_none (test hash) (value_of xs hash)
  found_staying test [] hash = sym (none_either (test hash))
  found_staying test (x ∷ xs) hash =
      split (same_hash x.0 hash)
      (λ is.
      let same : x.0 ≡ hash = hash_same x.0 hash is in
      split (test x.0)
      (λ stays. let also : test hash ≡ true = subst (λ (h : Hash). test h ≡ true) same stays in rw (stays, also, is) refl)
      (λ goes. let also : test hash ≡ false = subst (λ (h : Hash). test h ≡ false) same goes in rw goes (found_staying test xs hash ∙ rw also refl)))
      (λ other.
      split (test x.0)
      (λ stays. rw (stays, other) (found_staying test xs hash))
      (λ goes. rw (goes, other) (found_staying test xs hash)))

  pub distinct_staying : (test : Hash → Bool) (xs : List (Hash × V)) → are_distinct xs ≡ true → are_distinct (staying test xs) ≡ true
  distinct_staying test [] are = refl
  distinct_staying test (x ∷ xs) are =
      let parts = and_true (is_none (value_of xs x.0)) (are_distinct xs) are in
      let rest = distinct_staying test xs parts.1 in
      split (test x.0)
      (λ stays. rw stays (both_true _ _ (ap is_none (found_staying test xs x.0 ∙ ap (or_none (test x.0)) (no_value _ parts.0) ∙ none_either (test x.0))) rest))
      (λ goes. rw goes rest)

  pub alike_staying : (test : Hash → Bool) (xs ys : List (Hash × V)) → AreFoundAlike xs ys → AreFoundAlike (staying test xs) (staying test ys)
  alike_staying test xs ys alike hash = found_staying test ys hash ∙ ap (or_none (test hash)) (alike hash) ∙ sym (found_staying test xs hash)

  -- ---- how many there are

  none_less : (gone : Hash) (xs : List (Hash × V)) → value_of xs gone ≡ None → length (staying (is_other gone) xs) ≡ length xs
  none_less gone [] none = refl
  none_less gone (x ∷ xs) none =
      split (same_hash x.0 gone)
      (λ is. let some : Some x.1 ≡ None = rw is at none in absurd (none-some x.1 (sym some)))
      (λ other. rw other (ap suc (none_less gone xs (rw other at none))))

  one_less : (gone : Hash) (v : V) (xs : List (Hash × V)) → are_distinct xs ≡ true → value_of xs gone ≡ Some v → length xs ≡ suc (length (staying (is_other gone) xs))
  one_less gone v [] are there = absurd (none-some v there)
  one_less gone v (x ∷ xs) are there =
      let parts = and_true (is_none (value_of xs x.0)) (are_distinct xs) are in
      split (same_hash x.0 gone)
      (λ is. rw is (ap suc (sym (none_less gone xs (subst (λ (h : Hash). value_of xs h ≡ None) (hash_same x.0 gone is) (no_value _ parts.0))))))
      (λ other. rw other (ap suc (one_less gone v xs parts.1 (rw other at there))))

  without_alike : (x : Hash × V) (xs ys : List (Hash × V)) → value_of xs x.0 ≡ None → AreFoundAlike (x ∷ xs) ys → AreFoundAlike xs (staying (is_other x.0) ys)
  without_alike x xs ys none alike hash =
      found_staying (is_other x.0) ys hash
      ∙ split (same_hash hash x.0)
      (λ is. rw is (sym (subst (λ (h : Hash). value_of xs h ≡ None) (sym (hash_same hash x.0 is)) none)))
      (λ other. rw other (alike hash ∙ rw (hash_back hash x.0 other) refl))

  -- as many in the one as in the other
  pub as_many_alike : (xs ys : List (Hash × V)) → are_distinct xs ≡ true → are_distinct ys ≡ true → AreFoundAlike xs ys → length ys ≡ length xs
  as_many_alike [] [] own other alike = refl
  as_many_alike [] (y ∷ ys) own other alike =
      let none : value_of (y ∷ ys) y.0 ≡ None = alike y.0 in
      let some : Some y.1 ≡ None = rw (hash_itself y.0) at none in
      absurd (none-some y.1 (sym some))
  as_many_alike (x ∷ xs) ys own other alike =
      let parts = and_true (is_none (value_of xs x.0)) (are_distinct xs) own in
      let there : value_of ys x.0 ≡ Some x.1 = alike x.0 ∙ rw (hash_itself x.0) refl in
      let fewer = as_many_alike xs (staying (is_other x.0) ys) parts.1 (distinct_staying (is_other x.0) ys other) (without_alike x xs ys (no_value _ parts.0) alike) in
      one_less x.0 x.1 ys other there ∙ ap suc fewer

  -- ---- as many, and so each once

  no_more : (gone : Hash) (xs : List (Hash × V)) → length (staying (is_other gone) xs) ≤ length xs
  no_more gone [] = omega arith
  no_more gone (x ∷ xs) =
      let rest : length (staying (is_other gone) xs) ≤ length xs = no_more gone xs in
      split (same_hash x.0 gone)
      (λ is. rw is (omega (arith, rest)))
      (λ other. rw other (omega (arith, rest)))

  some_less : (gone : Hash) (v : V) (xs : List (Hash × V)) → value_of xs gone ≡ Some v → suc (length (staying (is_other gone) xs)) ≤ length xs
  some_less gone v [] there = absurd (none-some v there)
  some_less gone v (x ∷ xs) there =
      let rest : length (staying (is_other gone) xs) ≤ length xs = no_more gone xs in
      split (same_hash x.0 gone)
      (λ is. rw is (omega (arith, rest)))
      (λ other. let fewer : suc (length (staying (is_other gone) xs)) ≤ length xs = some_less gone v xs (rw other at there) in rw other (omega (arith, fewer)))

  -- what is found there of a list that has each once stands among at least as many
  pub at_least_as_many : (xs ys : List (Hash × V)) → are_distinct xs ≡ true → AreFoundAlike xs ys → length xs ≤ length ys
  at_least_as_many [] ys own alike = omega arith
  at_least_as_many (x ∷ xs) ys own alike =
      let parts = and_true (is_none (value_of xs x.0)) (are_distinct xs) own in
      let there : value_of ys x.0 ≡ Some x.1 = alike x.0 ∙ rw (hash_itself x.0) refl in
      let fewer : length xs ≤ length (staying (is_other x.0) ys) = at_least_as_many xs (staying (is_other x.0) ys) parts.1 (without_alike x xs ys (no_value _ parts.0) alike) in
      let some : suc (length (staying (is_other x.0) ys)) ≤ length ys = some_less x.0 x.1 ys there in
      omega (arith, fewer, some)

  -- where none is gone, none was there
  none_gone : (gone : Hash) (xs : List (Hash × V)) → length (staying (is_other gone) xs) ≡ length xs → value_of xs gone ≡ None
  none_gone gone xs same = by (value_of xs gone) refl
    where
      by : (found : Option V) → value_of xs gone ≡ found → value_of xs gone ≡ None
      by None is = is
      by (Some v) is = absurd (omega (arith, same, some_less gone v xs is))

  all_stay : (gone : Hash) (xs : List (Hash × V)) → value_of xs gone ≡ None → staying (is_other gone) xs ≡ xs
  all_stay gone [] none = refl
  all_stay gone (x ∷ xs) none =
      split (same_hash x.0 gone)
      (λ is. let some : Some x.1 ≡ None = rw is at none in absurd (none-some x.1 (sym some)))
      (λ other. rw other (ap (λ (l : List (Hash × V)). x ∷ l) (all_stay gone xs (rw other at none))))

  -- one that is gone was there once, where the others are there once
  once_with : (gone : Hash) (xs : List (Hash × V)) → length xs ≡ suc (length (staying (is_other gone) xs)) → are_distinct (staying (is_other gone) xs) ≡ true → are_distinct xs ≡ true
  once_with gone [] one rest = refl
  once_with gone (x ∷ xs) one rest =
      split (same_hash x.0 gone)
      (λ is.
      let here : suc (length xs) ≡ suc (length (staying (is_other gone) xs)) = rw is at one in
      let none : value_of xs gone ≡ None = none_gone gone xs (omega (arith, here)) in
      let others : are_distinct (staying (is_other gone) xs) ≡ true = rw is at rest in
      both_true _ _
      (ap is_none (subst (λ (h : Hash). value_of xs h ≡ None) (sym (hash_same x.0 gone is)) none))
      (subst (λ (l : List (Hash × V)). are_distinct l ≡ true) (all_stay gone xs none) others))
      (λ other.
      let here : suc (length xs) ≡ suc (suc (length (staying (is_other gone) xs))) = rw other at one in
      let others : (is_none (value_of (staying (is_other gone) xs) x.0) && are_distinct (staying (is_other gone) xs)) ≡ true = rw other at rest in
      let parts = and_true (is_none (value_of (staying (is_other gone) xs) x.0)) (are_distinct (staying (is_other gone) xs)) others in
      let found : value_of (staying (is_other gone) xs) x.0 ≡ value_of xs x.0 = found_staying (is_other gone) xs x.0 ∙ rw other refl in
      both_true _ _ (ap is_none (sym found) ∙ parts.0) (once_with gone xs (omega (arith, here)) parts.1))

  -- as many as in a list that has each once, and found alike: each is there once too
  pub once_alike : (xs ys : List (Hash × V)) → are_distinct xs ≡ true → AreFoundAlike xs ys → length ys ≡ length xs → are_distinct ys ≡ true
  once_alike [] [] own alike many = refl
  once_alike [] (y ∷ ys) own alike many = absurd (omega (arith, many))
  once_alike (x ∷ xs) ys own alike many =
      let parts = and_true (is_none (value_of xs x.0)) (are_distinct xs) own in
      let there : value_of ys x.0 ≡ Some x.1 = alike x.0 ∙ rw (hash_itself x.0) refl in
      let rest : AreFoundAlike xs (staying (is_other x.0) ys) = without_alike x xs ys (no_value _ parts.0) alike in
      let fewer : length xs ≤ length (staying (is_other x.0) ys) = at_least_as_many xs (staying (is_other x.0) ys) parts.1 rest in
      let some : suc (length (staying (is_other x.0) ys)) ≤ length ys = some_less x.0 x.1 ys there in
      let left : length (staying (is_other x.0) ys) ≡ length xs = omega (arith, many, fewer, some) in
      once_with x.0 ys (omega (arith, many, left)) (once_alike xs (staying (is_other x.0) ys) parts.1 rest left)
