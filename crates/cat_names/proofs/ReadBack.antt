-- The path form of a key is read as that key.
use Rattle.std.proofs.Common.{◌≡◌, ℕ, ◌≤◌, Bool, true, false, cond, List, [], ◌∷◌, ◌++◌, length, refl, sym, ap, ◌∙◌, arith}
use Rattle.std.specs.Prelude.{◌==◌, nat_lt, nat_le}
use Rattle.std.specs.List.{AllByRecursion, flat_map, list_any, list_all}
use Rattle.std.proofs.lemmas.Bool.Decides.{nat_tests}
use Rattle.std.proofs.lemmas.List.{append-nil, length-append, length-map}
use Rattle.std.proofs.lemmas.List.Concat.{flat_map-cons}
use Rattle.std.proofs.lemmas.List.Sums.{sum_by-cons}
use Rattle.cat_names.specs.Fields.{Key, pieces, unescaped, IsElement, IsKey, is_element, is_count, path_len, key_of, has_no_control, is_empty_part}
use Rattle.cat_names.specs.Paths.{escaped, escaped_element, path_form, IsPathOf}
use Rattle.cat_names.proofs.KeyParts.{both_true, few_of, path_is}
use Rattle.cat_names.proofs.Paths.{begun, begun_pieces, before_begun}

abbrev dotted : List ℕ → List ℕ
dotted element = 46 ∷ escaped_element element

clean : (x : List ℕ) → IsElement x → has_no_control x ≡ true
unfolding is_element
clean x e = (both_true (nat_lt 0 (length x)) (has_no_control x) e.test).1

full : (x : List ℕ) → IsElement x → is_empty_part x ≡ false
unfolding is_element
full x e =
    let some : nat_lt 0 (length x) ≡ true = (both_true (nat_lt 0 (length x)) (has_no_control x) e.test).0 in
    grind (arith, nat_tests)

back : (b : ℕ) → 32 ≤ b → ((escaped b == 46) ≡ false) × (unescaped (escaped b) ≡ b)
back b le = by_test (b == 46) refl
  where
    by_test : (t : Bool) → (b == 46) ≡ t → ((cond t 29 b == 46) ≡ false) × (unescaped (cond t 29 b) ≡ b)
    by_test true e = (refl, grind (arith, nat_tests))
    by_test false e =
        let p : (b == 29) ≡ false = grind (arith, nat_tests) in
        let q : (b == 0) ≡ false = grind (arith, nat_tests) in
        (e, rw (p, q) refl)

pieces_element : (x rest : List ℕ) → has_no_control x ≡ true → pieces (escaped_element x ++ rest) ≡ begun x (pieces rest)
pieces_element [] rest e = sym (begun_pieces rest)
pieces_element (b ∷ x) rest e =
    let c = both_true (nat_le 32 b) (has_no_control x) e in
    let h : nat_le 32 b ≡ true = c.0 in
    let le : 32 ≤ b = grind (arith, nat_tests) in
    let u = back b le in
    rw (u.0, u.1, pieces_element x rest c.1) (before_begun b x (pieces rest))

pieces_others : (ys : Key) → AllByRecursion IsElement ys → pieces (flat_map dotted ys) ≡ [] ∷ ys
pieces_others [] all = refl
pieces_others (y ∷ ys) all =
    ap pieces (flat_map-cons dotted y ys)
    ∙ ap (λ (ps : Key). [] ∷ ps) (pieces_element y (flat_map dotted ys) (clean y all.0) ∙ ap (begun y) (pieces_others ys all.1) ∙ ap (λ (x : List ℕ). x ∷ ys) (append-nil y))

pieces_path : (key : Key) → 1 ≤ length key → AllByRecursion IsElement key → pieces (path_form key) ≡ key
pieces_path [] some all = absurd (omega arith)
pieces_path (x ∷ ys) some all =
    pieces_element x (flat_map dotted ys) (clean x all.0) ∙ ap (begun x) (pieces_others ys all.1) ∙ ap (λ (z : List ℕ). z ∷ ys) (append-nil x)

none_empty : (key : Key) → AllByRecursion IsElement key → list_any is_empty_part key ≡ false
none_empty [] all = refl
none_empty (x ∷ xs) all = rw (full x all.0) (none_empty xs all.1)

all_clean : (key : Key) → AllByRecursion IsElement key → list_all has_no_control key ≡ true
all_clean [] all = refl
all_clean (x ∷ xs) all = rw (clean x all.0) (all_clean xs all.1)

some_of : (n : ℕ) → is_count n ≡ true → 1 ≤ n
unfolding is_count
some_of n e = grind (arith, nat_tests)

pub reads_back : (key : Key) → IsKey key → AllByRecursion IsElement key → IsPathOf (path_form key) key
unfolding key_of
reads_back key is all =
    let some : 1 ≤ length key = some_of (length key) is.count in
    let few : length key ≤ 20 = few_of (length key) is.count in
    let a : (length key == 0) ≡ false = grind (arith, nat_tests) in
    let b : nat_lt 20 (length key) ≡ false = grind (arith, nat_tests) in
    rw (pieces_path key some all) (rw (a, none_empty key all, b, all_clean key all, is.path) refl)

dotted_len : (ys : Key) → length (flat_map dotted ys) ≡ path_len ys
dotted_len [] = refl
dotted_len (y ∷ ys) =
    ap length (flat_map-cons dotted y ys) ∙ omega (arith, length-append (dotted y) (flat_map dotted ys), length-map y escaped, dotted_len ys, sum_by-cons length y ys)

pub path_is_short : (key : Key) → IsKey key → length (path_form key) ≤ 500
path_is_short [] is = omega arith
path_is_short (x ∷ ys) is =
    omega (arith, length-append (escaped_element x) (flat_map dotted ys), length-map x escaped, dotted_len ys, sum_by-cons length x ys, path_is (x ∷ ys) is.path)
