-- The text of a pattern is that pattern's.
use Rattle.std.proofs.Common.{◌≡◌, ℕ, ◌+◌, ◌&&◌, List, [], ◌∷◌, ◌++◌, length, drop, true, false, Some, inl, inr, refl, sym, subst, ◌∙◌, arith, codes}
use Rattle.std.specs.Prelude.{nat_lt}
use Rattle.std.specs.List.{AllByRecursion, list_all, position_or_len}
use Rattle.std.proofs.lemmas.Bool.{and_parts, eqb-true, false_from_ne_true, le-ltb, lt-ltb, or_cases}
use Rattle.std.proofs.lemmas.List.{length-append, take_at}
use Rattle.std.proofs.Math.ListN.{drop_of_length-le}
use Rattle.std.proofs.lemmas.List.Folds.{list_all-append}
use Rattle.cat_names.specs.RefNames.{begins_with_letter, has_good_dots, is_name_byte, is_reference_name}
use Rattle.cat_model.specs.declared.cutoff.Pattern.TheVariants.{Name, Front}
use Rattle.cat_model.specs.Cutoffs.{is_star, pattern_of}
use Rattle.cat_model.specs.Fronts.{is_front}
use Rattle.cat_frames.specs.Sweeps.{pattern_text}

abbrev HasNoStar : List ℕ → Type 0
HasNoStar = AllByRecursion (λ b. is_star b ≡ false)

no_name_byte : (b : ℕ) → is_name_byte b ≡ true → is_star b ≡ true → ⊥
no_name_byte b h star = let no : is_name_byte 42 ≡ true = subst (λ (c : ℕ). is_name_byte c ≡ true) (eqb-true b 42 star) h in absurd cc

name_bytes_have_none : (bytes : List ℕ) → list_all is_name_byte bytes ≡ true → HasNoStar bytes
name_bytes_have_none [] h = tt
name_bytes_have_none (b ∷ bytes) h =
    let parts = and_parts (is_name_byte b) (list_all is_name_byte bytes) h in
    (false_from_ne_true (is_star b) (no_name_byte b parts.0), name_bytes_have_none bytes parts.1)

name_bytes : (name : List ℕ) → is_reference_name name ≡ true → list_all is_name_byte name ≡ true
unfolding is_reference_name
name_bytes name h =
    let all = and_parts (begins_with_letter name && list_all is_name_byte name && has_good_dots name) _ h in
    let spelled = and_parts (begins_with_letter name && list_all is_name_byte name) (has_good_dots name) all.0 in
    (and_parts (begins_with_letter name) (list_all is_name_byte name) spelled.0).1

front_bytes : (front : List ℕ) → is_front front ≡ true → list_all is_name_byte front ≡ true
front_bytes front h =
    elim (or_cases (is_reference_name front) (is_reference_name (front ++ codes "a")) h) [
      | inl own ↦ name_bytes front own
      | inr longer ↦ (and_parts (list_all is_name_byte front) (list_all is_name_byte (codes "a")) (sym (list_all-append is_name_byte front (codes "a")) ∙ name_bytes (front ++ codes "a") longer)).0
    ]

-- ---- names

nowhere : (xs : List ℕ) → HasNoStar xs → position_or_len is_star xs ≡ length xs
nowhere [] h = refl
nowhere (x ∷ xs) h = let rest = nowhere xs h.1 in rw h.0 (omega (arith, rest))

pub name_back : (name : List ℕ) → is_reference_name name ≡ true → pattern_of (pattern_text (Name name)) ≡ Some (Name name)
unfolding pattern_of
name_back name h =
    let outside : nat_lt (length name) (length name) ≡ false = le-ltb _ _ (omega arith) in
    rw (nowhere name (name_bytes_have_none name (name_bytes name h)), outside, h) refl

-- ---- fronts

first_star : (xs ys : List ℕ) → HasNoStar xs → position_or_len is_star (xs ++ 42 ∷ ys) ≡ length xs
first_star [] ys h = refl
first_star (x ∷ xs) ys h = let rest = first_star xs ys h.1 in rw h.0 (omega (arith, rest))

pub front_back : (front : List ℕ) → is_front front ≡ true → pattern_of (pattern_text (Front front)) ≡ Some (Front front)
unfolding pattern_of
front_back front h =
    let at = first_star front [] (name_bytes_have_none front (front_bytes front h)) in
    let one : length (front ++ codes "*") ≡ length front + 1 = length-append front (codes "*") in
    let inside : nat_lt (length front) (length (front ++ codes "*")) ≡ true = lt-ltb _ _ (omega (arith, one)) in
    let after : drop (length front + 1) (front ++ codes "*") ≡ [] = drop_of_length-le (front ++ codes "*") (omega (arith, one)) in
    rw (at, inside, after, take_at front (codes "*") (length front) refl, h) refl
