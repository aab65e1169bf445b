-- A front of names is what some name begins with.
use Rattle.std.proofs.Common.{◌≡◌, ◌↔◌, sym, subst, refl, ℕ, ◌≤◌, List, [], ◌∷◌, ◌++◌, length, Bool, true, false, not, ◌&&◌, ◌==◌, nat_le, codes, inl, inr, append-nil, length-append, arith}
use Rattle.std.specs.List.{list_all}
use Rattle.std.proofs.lemmas.Bool.{and_from, and_parts, le-leb, leb-true, or_cases, or_left, or_right}
use Rattle.cat_names.specs.RefNames.{begins_with_letter, has_good_dots, is_name_byte, is_reference_name}
use Rattle.cat_model.specs.Fronts.{is_front}

-- ---- each part of the rule of names, from a longer text to one letter behind the front

letter : (front : List ℕ) (b : ℕ) (rest : List ℕ) → begins_with_letter (front ++ b ∷ rest) ≡ true → begins_with_letter (front ++ 97 ∷ []) ≡ true
letter [] b rest h = refl
letter (f ∷ front) b rest h = h

bytes : (front rest : List ℕ) → list_all is_name_byte (front ++ rest) ≡ true → list_all is_name_byte (front ++ 97 ∷ []) ≡ true
bytes [] rest h = refl
bytes (f ∷ front) rest h =
    let parts = and_parts (is_name_byte f) (list_all is_name_byte (front ++ rest)) h in
    and_from (is_name_byte f) (list_all is_name_byte (front ++ 97 ∷ [])) parts.0 (bytes front rest parts.1)

a_letter_follows : (is_dot : Bool) → (not (is_dot && false) && true) ≡ true
a_letter_follows true = refl
a_letter_follows false = refl

dots : (front : List ℕ) (b : ℕ) (rest : List ℕ) → has_good_dots (front ++ b ∷ rest) ≡ true → has_good_dots (front ++ 97 ∷ []) ≡ true
dots [] b rest h = refl
dots (f ∷ []) b rest h = a_letter_follows (f == 46)
dots (f ∷ g ∷ front) b rest h =
    let parts = and_parts (not (f == 46 && g == 46)) (has_good_dots (g ∷ front ++ b ∷ rest)) h in
    and_from (not (f == 46 && g == 46)) (has_good_dots (g ∷ front ++ 97 ∷ [])) parts.0 (dots (g ∷ front) b rest parts.1)

short : (front : List ℕ) (b : ℕ) (rest : List ℕ) → nat_le (length (front ++ b ∷ rest)) 128 ≡ true → nat_le (length (front ++ 97 ∷ [])) 128 ≡ true
short front b rest h =
    let within : length (front ++ b ∷ rest) ≤ 128 = leb-true (length (front ++ b ∷ rest)) 128 h in
    le-leb (length (front ++ 97 ∷ [])) 128 (omega (arith, within, length-append front (b ∷ rest), length-append front (97 ∷ [])))

with_a_letter : (front : List ℕ) (b : ℕ) (rest : List ℕ) → is_reference_name (front ++ b ∷ rest) ≡ true → is_reference_name (front ++ 97 ∷ []) ≡ true
unfolding is_reference_name
with_a_letter front b rest h =
    let text = front ++ b ∷ rest in
    let all = and_parts (begins_with_letter text && list_all is_name_byte text && has_good_dots text) (nat_le (length text) 128) h in
    let spelled = and_parts (begins_with_letter text && list_all is_name_byte text) (has_good_dots text) all.0 in
    let begun = and_parts (begins_with_letter text) (list_all is_name_byte text) spelled.0 in
    let name = front ++ 97 ∷ [] in
    let begins = and_from (begins_with_letter name) (list_all is_name_byte name) (letter front b rest begun.0) (bytes front (b ∷ rest) begun.1) in
    let is_spelled = and_from (begins_with_letter name && list_all is_name_byte name) (has_good_dots name) begins (dots front b rest spelled.1) in
    and_from (begins_with_letter name && list_all is_name_byte name && has_good_dots name) (nat_le (length name) 128) is_spelled (short front b rest all.1)

-- ---- both ways

begins_one : (front : List ℕ) → is_front front ≡ true → (rest : List ℕ) × (is_reference_name (front ++ rest) ≡ true)
begins_one front h =
    elim (or_cases (is_reference_name front) (is_reference_name (front ++ codes "a")) h) [
      | inl own ↦ ([], subst (λ text. is_reference_name text ≡ true) (sym (append-nil front)) own)
      | inr longer ↦ (codes "a", longer)
    ]

begun_by : (front rest : List ℕ) → is_reference_name (front ++ rest) ≡ true → is_front front ≡ true
begun_by front [] h = or_left (is_reference_name front) (is_reference_name (front ++ codes "a")) (subst (λ text. is_reference_name text ≡ true) (append-nil front) h)
begun_by front (b ∷ rest) h = or_right (is_reference_name front) (is_reference_name (front ++ codes "a")) (with_a_letter front b rest h)

pub front_is : (text : List ℕ) → (is_front text ≡ true) ↔ ((rest : List ℕ) × (is_reference_name (text ++ rest) ≡ true))
front_is text = (begins_one text, λ found. begun_by text found.0 found.1)
