-- What is written is read: by list, by object, and by each value.
use Rattle.std.proofs.Common.{◌≡◌, ℕ, ◌<◌, ◌^◌, ℤ, pos, negsuc, List, [], ◌∷◌, ◌++◌, length, map, refl, sym, ◌∙◌, ap, Some, None, Option, Bool, true, false, inl, ◌&&◌, Less, Equal, Greater, Ordering, is_lt, append_assoc, append-nil, arith, nat_cmp}
use Rattle.std.specs.Prelude.{FitsSigned}
use Rattle.std.specs.Int.{w32, w64}
use Rattle.std.specs.Ordering.{ordering_reverse}
use Rattle.std.specs.Cmp.Lexicographic.{slice_cmp}
use Rattle.std.proofs.lemmas.Cmp.{nat_list_cmp_total}
use Rattle.serde_json.specs.Data.{Data, Members, no_members, member, put}
use Rattle.serde_json.specs.View.{items_of}
use Rattle.cat_codes.specs.Code.{ascends}
use Rattle.std.proofs.Common.{All, lt-ltb}
use Rattle.hex.specs.Hex.{IsBytes}
use Rattle.hex.proofs.HexLemmas.{decode_sized-encode_lower}
use Rattle.uuid.specs.Text.{lower}
use Rattle.uuid.proofs.RoundTrips.{parses_hyphenated}
use Rattle.cat_names.specs.declared.hash.Hash.{Hash}
use Rattle.cat_names.specs.declared.hash.ContentId.{ContentId}
use Rattle.std.specs.Option.{option_map}
use Rattle.cat_names.specs.Hashes.{decoded, id_of_bytes}
use Rattle.cat_json.specs.Names.{hash_as, id_as, hash_data, id_data}
use Rattle.cat_json.specs.Numbers.{small_natural, integer, small_integer, natural_data, integer_data}
use Rattle.cat_json.specs.Reading.{◌>>=◌, items_as, list_as, members_as, map_as, Ascends}
use Rattle.cat_json.specs.Writing.{list_data, map_data, put_all}

abbrev Name : Type 0
Name = List ℕ

abbrev cmp : Name → Name → Ordering
cmp = slice_cmp nat_cmp

-- each name is below this one
abbrev IsAfter : Name → Members → Type 0
IsAfter k no_members = Unit {0}
IsAfter k (member l d ms) = (cmp l k ≡ Less) × IsAfter k ms

-- one more at the end
abbrev snoc : Members → Name → Data → Members
snoc no_members k d = member k d no_members
snoc (member l e ms) k d = member l e (snoc ms k d)

put_last : (k : Name) (d : Data) (ms : Members) → IsAfter k ms → put k d ms ≡ snoc ms k d
put_last k d no_members h = refl
put_last k d (member l e ms) h =
    let above : cmp k l ≡ Greater = nat_list_cmp_total.antisymm k l ∙ ap ordering_reverse h.0 in
    rw (above, put_last k d ms h.1) refl

after_next : (k n : Name) (d : Data) (ms : Members) → cmp k n ≡ Less → IsAfter k ms → IsAfter n (snoc ms k d)
after_next k n d no_members lt h = (lt, tt)
after_next k n d (member l e ms) lt h = (nat_list_cmp_total.trans l k n h.0 lt, after_next k n d ms lt h.1)

module _ {A : Type 0} (read : Data → Option A) (write : A → Data) (back : (x : A) → read (write x) ≡ Some x) where
  items_back : (xs : List A) → items_as read (items_of (map write xs)) ≡ Some xs
  items_back [] = refl
  items_back (x ∷ xs) = rw (back x, items_back xs) refl

  pub list_back : (xs : List A) → list_as read (list_data write xs) ≡ Some xs
  list_back xs = items_back xs

  abbrev Pairs : Type 0
  Pairs = List (Name × A)

  abbrev with_more : Option Pairs → Pairs → Option Pairs
  with_more front xs = front >>= λ ys. Some (ys ++ xs)

  snoc_read : (k : Name) (x : A) (ms : Members) → members_as read (snoc ms k (write x)) ≡ with_more (members_as read ms) ((k, x) ∷ [])
  snoc_read k x no_members = rw (back x) refl
  snoc_read k x (member l e ms) = rw (snoc_read k x ms) (cases (read e) (members_as read ms))
    where
      cases : (o : Option A) (front : Option Pairs) → (o >>= λ y. with_more front ((k, x) ∷ []) >>= λ ys. Some ((l, y) ∷ ys)) ≡ with_more (o >>= λ y. front >>= λ ys. Some ((l, y) ∷ ys)) ((k, x) ∷ [])
      cases None front = refl
      cases (Some y) None = refl
      cases (Some y) (Some ys) = refl

  more_more : (front : Option Pairs) (x : Name × A) (xs : Pairs) → with_more (with_more front (x ∷ [])) xs ≡ with_more front (x ∷ xs)
  more_more None x xs = refl
  more_more (Some ys) x xs = ap Some (append_assoc ys (x ∷ []) xs)

  none_more : (front : Option Pairs) → front ≡ with_more front []
  none_more None = refl
  none_more (Some ys) = ap Some (sym (append-nil ys))

  both : (b c : Bool) → (b && c) ≡ true → (b ≡ true) × (c ≡ true)
  both true c e = (refl, e)
  both false c e = absurd cc

  less : (o : Ordering) → is_lt o ≡ true → o ≡ Less
  less Less e = refl
  less Equal e = absurd cc
  less Greater e = absurd cc

  -- the names of the pairs ascend, the first of them above all the members
  abbrev Follow : Members → Pairs → Type 0
  Follow ms [] = Unit {0}
  Follow ms (x ∷ xs) = IsAfter x.0 ms × (ascends cmp (Some x.0) xs ≡ true)

  next : (ms : Members) (x : Name × A) (xs : Pairs) → IsAfter x.0 ms → ascends cmp (Some x.0) xs ≡ true → Follow (snoc ms x.0 (write x.1)) xs
  next ms x [] h e = tt
  next ms x (y ∷ ys) h e =
      let p = both (is_lt (cmp x.0 y.0)) (ascends cmp (Some y.0) ys) e in
      (after_next x.0 y.0 (write x.1) ms (less (cmp x.0 y.0) p.0) h, p.1)

  all_read : (ms : Members) (xs : Pairs) → Follow ms xs → members_as read (put_all write ms xs) ≡ with_more (members_as read ms) xs
  all_read ms [] h = none_more (members_as read ms)
  all_read ms (x ∷ xs) h =
      ap (λ (m : Members). members_as read (put_all write m xs)) (put_last x.0 (write x.1) ms h.0)
      ∙ all_read (snoc ms x.0 (write x.1)) xs (next ms x xs h.0 h.1)
      ∙ ap (λ (o : Option Pairs). with_more o xs) (snoc_read x.0 x.1 ms)
      ∙ more_more (members_as read ms) x xs

  begin : (xs : Pairs) → ascends cmp None xs ≡ true → Follow no_members xs
  begin [] e = tt
  begin (x ∷ xs) e = (tt, e)

  pub map_back : (xs : Pairs) → Ascends xs → map_as read (map_data write xs) ≡ Some xs
  map_back xs h = all_read no_members xs (begin xs h)

-- ---- values

pub small_natural_back : (n : ℕ) → n < 2 ^ 32 → small_natural (natural_data n) ≡ Some n
small_natural_back n h = rw (lt-ltb n (2 ^ 32) h) refl

pub integer_back : (z : ℤ) → FitsSigned w64 z → integer (integer_data z) ≡ Some z
integer_back (pos n) h = let lt : n < 2 ^ 63 = search h in rw (lt-ltb n (2 ^ 63) lt) refl
integer_back (negsuc n) h = refl

pub small_integer_back : (z : ℤ) → FitsSigned w32 z → small_integer (integer_data z) ≡ Some z
small_integer_back (pos n) h =
    let small : n < 2 ^ 31 = search h in
    let large : n < 2 ^ 63 = omega (arith, small) in
    rw (lt-ltb n (2 ^ 63) large, lt-ltb n (2 ^ 31) small) refl
small_integer_back (negsuc n) h = let small : n < 2 ^ 31 = search h in rw (lt-ltb n (2 ^ 31) small) refl

pub id_back : (id : ContentId) → length id.bytes ≡ 16 → All (λ b. b < 256) id.bytes → id_as (id_data id) ≡ Some id
id_back id len small = ap (option_map id_of_bytes) (sym (parses_hyphenated lower id.bytes (inl refl) len small))

pub hash_back : (h : Hash) → length h.bytes ≡ 32 → IsBytes h.bytes → hash_as (hash_data h) ≡ Some h
hash_back h len small = ap decoded (decode_sized-encode_lower h.bytes 32 len small)
