-- Names that are read in a map's order ascend.
use Rattle.std.proofs.Common.{◌≡◌, ℕ, List, [], ◌∷◌, ◌++◌, map, refl, sym, ◌∙◌, subst, Some, None, Option, true, Less, append_assoc, append-nil, string_bytes, string_cmp, nat_cmp}
use Rattle.std.proofs.lemmas.List.{map-append}
use Rattle.std.specs.Cmp.Lexicographic.{slice_cmp}
use Rattle.std.specs.List.{AllByRecursion}
use Rattle.std.specs.List.Sorted.{IsStrictlySortedBy}
use Rattle.std.specs.Map.{keys_of}
use Rattle.cat_codes.specs.Code.{ascends, follows}
use Rattle.cat_json.specs.Reading.{Ascends}
use Rattle.cat_json.proofs.Members.{Entry, Pairs}

abbrev pub names_of : List Entry → List (List ℕ)
names_of es = map (λ e. string_bytes e.0) es

abbrev IsAbove : Option (List ℕ) → List Entry → Type 0
IsAbove None es = Unit {0}
IsAbove (Some k) es = AllByRecursion (λ y. slice_cmp nat_cmp k (string_bytes y) ≡ Less) (keys_of es)

first_follows : (last : Option (List ℕ)) (k : List ℕ) (e : Entry) (es : List Entry) → k ≡ string_bytes e.0 → IsAbove last (e ∷ es) → follows (slice_cmp nat_cmp) last k ≡ true
first_follows None k e es same above = refl
first_follows (Some l) k e es same above = rw (same, above.0) refl

module _ {A : Type 0} where
  abbrev pub firsts : Pairs A → List (List ℕ)
  firsts ps = map (λ p. p.0) ps

  ascending : (last : Option (List ℕ)) (ps : Pairs A) (es : List Entry) → firsts ps ≡ names_of es → IsAbove last es → IsStrictlySortedBy string_cmp (keys_of es) → ascends (slice_cmp nat_cmp) last ps ≡ true
  unfolding IsStrictlySortedBy
  ascending last [] es same above sorted = refl
  ascending last (p ∷ ps) [] same above sorted = absurd cc
  ascending last (p ∷ ps) (e ∷ es) same above sorted =
      let k : p.0 ≡ string_bytes e.0 = cc in
      let rest : firsts ps ≡ names_of es = cc in
      let more : IsAbove (Some p.0) es = rw k sorted.0 in
      rw (first_follows last p.0 e es k above) (ascending (Some p.0) ps es rest more sorted.1)

  pub ascends_all : (ps : Pairs A) (es : List Entry) → firsts ps ≡ names_of es → IsStrictlySortedBy string_cmp (keys_of es) → Ascends ps
  ascends_all ps es same sorted = search (ascending None ps es same tt sorted)

  -- the names read and those left are all
  abbrev pub HasAll : List Entry → List Entry → Pairs A → Type 0
  HasAll all rest front = firsts front ++ names_of rest ≡ names_of all

  pub goes_on : (all left rest : List Entry) (e : Entry) (front new : Pairs A) (k : List ℕ) (x : A) → left ≡ e ∷ rest → k ≡ string_bytes e.0 → new ≡ front ++ (k, x) ∷ [] → HasAll all left front → HasAll all rest new
  goes_on all left rest e front new k x steps same pushed so_far =
      let one : firsts (front ++ (k, x) ∷ []) ++ names_of rest ≡ firsts front ++ names_of (e ∷ rest) = rw (map-append, append_assoc, same) refl in
      rw pushed (one ∙ subst (λ l. HasAll all l front) steps so_far)

  pub ends_with_all : (all left : List Entry) (front : Pairs A) → left ≡ [] → HasAll all left front → firsts front ≡ names_of all
  ends_with_all all left front none so_far = sym (append-nil (firsts front)) ∙ subst (λ l. HasAll all l front) none so_far
