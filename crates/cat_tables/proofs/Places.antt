-- Where the values of a table stand.
use Rattle.std.proofs.Common.{◌≡◌, ℕ, ◌<◌, List, [], ◌∷◌, ◌++◌, Option, Some, None, Bool, true, false, cond, length, get_or, reverse, refl, sym, ap, subst, ◌∙◌, arith}
use Rattle.std.proofs.lemmas.List.{reverse-append, length-reverse, reverse-reverse, get_or_append_left}
use Rattle.std.proofs.Math.Seq.{get_or-append_seam}
use Rattle.std.proofs.lemmas.Option.{none-some}
use Rattle.std.specs.Cmp.Lexicographic.{bytes_decides}
use Rattle.std.specs.Map.{lookup}
use Rattle.cat_names.specs.declared.hash.Hash.{Hash}
use Rattle.cat_tables.specs.Tables.{same_hash, value_of, place_of, IsIndexed}

-- ---- hashes

pub same_is : (a b : Hash) → same_hash a b ≡ true → a ≡ b
same_is a b e = ap (λ (bytes : List ℕ). record { bytes = bytes }) ((bytes_decides a.bytes b.bytes).0 e)

-- none in both, where the same test stands before both
none_by : {A B : Type 0} (b : Bool) (x : A) (y : B) (first : Option A) (second : Option B) → cond b (Some x) first ≡ None → (first ≡ None → second ≡ None) → cond b (Some y) second ≡ None
none_by true x y first second e more = absurd (none-some x (sym e))
none_by false x y first second e more = more e

-- ---- places and values

module _ {V : Type 0} where
  pub no_value : (list : List (Hash × V)) (hash : Hash) → place_of list hash ≡ None → value_of list hash ≡ None
  no_value [] hash e = refl
  no_value (x ∷ older) hash e = none_by (same_hash x.0 hash) (length older) x.1 (place_of older hash) (value_of older hash) e (no_value older hash)

  reverse_cons : (x : Hash × V) (older : List (Hash × V)) → reverse (x ∷ older) ≡ reverse older ++ x ∷ []
  reverse_cons x older = reverse-append (x ∷ []) older

  -- what stands at a place of the list turned round
  abbrev StandsAt : List (Hash × V) → Hash → ℕ → Type 0
  StandsAt list hash i = (i < length list) × ((d : Hash × V) → value_of list hash ≡ Some (get_or (reverse list) i d).1)

  at_end : (x : Hash × V) (older : List (Hash × V)) (d : Hash × V) → get_or (reverse (x ∷ older)) (length older) d ≡ x
  at_end x older d = rw (reverse_cons x older) (ap (λ (n : ℕ). get_or (reverse older ++ x ∷ []) n d) (sym (length-reverse older)) ∙ get_or-append_seam (reverse older) x [] d)

  before_end : (x : Hash × V) (older : List (Hash × V)) (i : ℕ) (d : Hash × V) → i < length older → get_or (reverse (x ∷ older)) i d ≡ get_or (reverse older) i d
  before_end x older i d below = rw (reverse_cons x older) (get_or_append_left (reverse older) (x ∷ []) d i (rw (length-reverse older) below))

  -- the newest, or one of the older ones
  stands_by : (b : Bool) (x : Hash × V) (older : List (Hash × V)) (hash : Hash) (i : ℕ) → cond b (Some (length older)) (place_of older hash) ≡ Some i → (place_of older hash ≡ Some i → StandsAt older hash i)
      → (i < length (x ∷ older)) × ((d : Hash × V) → cond b (Some x.1) (value_of older hash) ≡ Some (get_or (reverse (x ∷ older)) i d).1)
  stands_by true x older hash i e more =
      let last : length older ≡ i = cc in
      subst (λ (n : ℕ). (n < length (x ∷ older)) × ((d : Hash × V) → Some x.1 ≡ Some (get_or (reverse (x ∷ older)) n d).1)) last (omega arith, λ d. ap (λ (y : Hash × V). Some y.1) (sym (at_end x older d)))
  stands_by false x older hash i e more =
      let there = more e in
      (omega (arith, there.0), λ d. there.1 d ∙ ap (λ (y : Hash × V). Some y.1) (sym (before_end x older i d there.0)))

  stands_at : (list : List (Hash × V)) (hash : Hash) (i : ℕ) → place_of list hash ≡ Some i → StandsAt list hash i
  stands_at [] hash i e = absurd (none-some i e)
  stands_at (x ∷ older) hash i e = stands_by (same_hash x.0 hash) x older hash i e (stands_at older hash i)

  -- what stands at the place of a hash, the oldest first
  pub at_its_place : (items : List (Hash × V)) (hash : Hash) (i : ℕ) → place_of (reverse items) hash ≡ Some i → (i < length items) × ((d : Hash × V) → value_of (reverse items) hash ≡ Some (get_or items i d).1)
  at_its_place items hash i e =
      let there = stands_at (reverse items) hash i e in
      (subst (λ (n : ℕ). i < n) (length-reverse items) there.0, λ d. there.1 d ∙ ap (λ (all : List (Hash × V)). Some (get_or all i d).1) (reverse-reverse items))

  -- ---- the index of a list

  pub empty_is_indexed : IsIndexed {V = V} [] []
  empty_is_indexed = record { distinct = refl; found = λ hash. refl }

  -- one value more, under a hash that is not there
  pub indexed_more : (hash : Hash) (value : V) (list : List (Hash × V)) (places more : List (Hash × ℕ)) → IsIndexed list places → value_of list hash ≡ None
      → ((other : Hash) → lookup (same_hash other) more ≡ cond (same_hash hash other) (Some (length list)) (lookup (same_hash other) places)) → IsIndexed ((hash, value) ∷ list) more
  indexed_more hash value list places more are absent puts = record {
    distinct = rw absent are.distinct;
    found = λ other. puts other ∙ ap (λ (place : Option ℕ). cond (same_hash hash other) (Some (length list)) place) (are.found other);
  }

  -- the same look-ups
  pub indexed_alike : (list : List (Hash × V)) (places others : List (Hash × ℕ)) → IsIndexed list places → ((hash : Hash) → lookup (same_hash hash) others ≡ lookup (same_hash hash) places) → IsIndexed list others
  indexed_alike list places others are alike = record { distinct = are.distinct; found = λ hash. alike hash ∙ are.found hash }

  last_first : (items : List (Hash × V)) (x : Hash × V) → reverse (items ++ x ∷ []) ≡ x ∷ reverse items
  last_first items x = reverse-append items (x ∷ [])

  pub indexed_push : (hash : Hash) (value : V) (items : List (Hash × V)) (places more : List (Hash × ℕ)) (n : ℕ) → IsIndexed (reverse items) places → value_of (reverse items) hash ≡ None → n ≡ length items
      → ((other : Hash) → lookup (same_hash other) more ≡ cond (same_hash hash other) (Some n) (lookup (same_hash other) places)) → IsIndexed (reverse (items ++ (hash, value) ∷ [])) more
  indexed_push hash value items places more n are absent all puts =
      rw (last_first items (hash, value)) (indexed_more hash value (reverse items) places more are absent (λ other. puts other ∙ ap (λ (k : ℕ). cond (same_hash hash other) (Some k) (lookup (same_hash other) places)) (all ∙ sym (length-reverse items))))
