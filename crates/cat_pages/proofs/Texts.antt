-- The text of a token is read as that token.
use Rattle.std.proofs.Common.{◌≡◌, ℕ, suc, ◌+◌, ◌<◌, true, false, List, [], ◌∷◌, ◌++◌, length, drop, Some, refl, sym, ap, subst, ◌∙◌, append_assoc, arith}
use Rattle.std.specs.Prelude.{◌/◌, ◌%◌, is_some, codes, nat_lt}
use Rattle.std.specs.List.{AllByRecursion, position, position_or_len, before_first, after_first}
use Rattle.std.specs.Option.{option_map}
use Rattle.std.proofs.lemmas.Bool.{eqb-true, false_from_ne_true, lt-ltb}
use Rattle.std.proofs.lemmas.List.{take_at, drop_at, length-append}
use Rattle.std.proofs.lemmas.Option.{none-some}
use Rattle.hex.specs.Hex.{IsBytes, encode_with, encode_lower, hex_digit_value}
use Rattle.hex.proofs.HexLemmas.{IsDigits-lower_digits, decode_sized-encode_lower}
use Rattle.cat_names.specs.declared.hash.Hash.{Hash}
use Rattle.cat_names.specs.Fields.{Key}
use Rattle.cat_names.specs.Hashes.{decoded, hash_of}
use Rattle.cat_names.specs.Paths.{IsPathOf, path_form}
use Rattle.cat_names.specs.RefNames.{is_reference_name}
use Rattle.cat_pages.specs.declared.token.Token.TheVariants.{References, Entries, History}
use Rattle.cat_pages.specs.Tokens.{is_dot, entries_of, of_kind, token_of, token_text}

-- ---- the first dot

abbrev HasNoDot : List ℕ → Type 0
HasNoDot = AllByRecursion (λ b. is_dot b ≡ false)

first_dot : (xs ys : List ℕ) → HasNoDot xs → position_or_len is_dot (xs ++ 46 ∷ ys) ≡ length xs
first_dot [] ys h = refl
first_dot (x ∷ xs) ys h = let rest = first_dot xs ys h.1 in rw h.0 (omega (arith, rest))

pub record IsCut (text front rest : List ℕ) : Type 0 where
  pub there : is_some (position is_dot text) ≡ true
  pub before : before_first is_dot text ≡ front
  pub after : after_first is_dot text ≡ rest

cut : (xs ys : List ℕ) → HasNoDot xs → IsCut (xs ++ 46 ∷ ys) xs ys
cut xs ys h =
    let at = first_dot xs ys h in
    let inside : nat_lt (length xs) (length (xs ++ 46 ∷ ys)) ≡ true = lt-ltb _ _ (omega (arith, length-append xs (46 ∷ ys))) in
    let one : length (xs ++ 46 ∷ []) ≡ length xs + 1 = length-append xs (46 ∷ []) in
    record {
      there = rw (at, inside) refl;
      before = rw at (take_at xs (46 ∷ ys) (length xs) refl);
      after = rw at (ap (λ (zs : List ℕ). drop (length xs + 1) zs) (sym (append_assoc xs (46 ∷ []) ys)) ∙ drop_at (xs ++ 46 ∷ []) ys (length xs + 1) one);
    }

-- ---- digits

not_dot : (c v : ℕ) → hex_digit_value c ≡ Some v → is_dot c ≡ false
not_dot c v e = false_from_ne_true (is_dot c) (λ t. none-some v (subst (λ (d : ℕ). hex_digit_value d ≡ Some v) (eqb-true c 46 t) e))

digits_have_no_dot : (bytes : List ℕ) → IsBytes bytes → HasNoDot (encode_lower bytes)
unfolding encode_with
digits_have_no_dot [] h = tt
digits_have_no_dot (b ∷ bytes) h =
    let fits : b < 256 = h 0 in
    let high : b / 16 < 16 = omega arith in
    let low : b % 16 < 16 = omega arith in
    (not_dot _ _ (IsDigits-lower_digits (b / 16) high), (not_dot _ _ (IsDigits-lower_digits (b % 16) low), digits_have_no_dot bytes (λ i. h (suc i))))

hash_back : (h : Hash) → length h.bytes ≡ 32 → IsBytes h.bytes → hash_of (encode_lower h.bytes) ≡ Some h
hash_back h len small = ap decoded (decode_sized-encode_lower h.bytes 32 len small)

-- ---- tokens

by_cut : (text kind rest : List ℕ) → IsCut text kind rest → token_of text ≡ of_kind kind rest
unfolding token_of
by_cut text kind rest at = rw (at.there, at.before, at.after) refl

pub references_back : (name : List ℕ) → is_reference_name name ≡ true → token_of (codes "r." ++ name) ≡ Some (References name)
references_back name e = by_cut _ (codes "r") name (cut (codes "r") name (refl, tt)) ∙ rw e refl

pub history_back : (h : Hash) → length h.bytes ≡ 32 → IsBytes h.bytes → token_of (token_text (History h)) ≡ Some (History h)
history_back h len small = by_cut _ (codes "h") (encode_lower h.bytes) (cut (codes "h") _ (refl, tt)) ∙ ap (option_map History) (hash_back h len small)

entries_cut : (text digits path : List ℕ) (h : Hash) (key : Key) → IsCut text digits path → hash_of digits ≡ Some h → IsPathOf path key → entries_of text ≡ Some (Entries h key)
unfolding entries_of
entries_cut text digits path h key at hash is = rw (at.there, at.before, at.after, hash, is) refl

pub entries_back : (h : Hash) (key : Key) → length h.bytes ≡ 32 → IsBytes h.bytes → IsPathOf (path_form key) key → token_of (token_text (Entries h key)) ≡ Some (Entries h key)
entries_back h key len small is =
    let digits = encode_lower h.bytes in
    let path = path_form key in
    ap (λ (rest : List ℕ). token_of (101 ∷ 46 ∷ rest)) (append_assoc digits (46 ∷ []) path)
    ∙ by_cut _ (codes "e") (digits ++ 46 ∷ path) (cut (codes "e") _ (refl, tt))
    ∙ entries_cut _ digits path h key (cut digits path (digits_have_no_dot h.bytes small)) (hash_back h len small) is
