-- The operations of a request, sorted by their keys.
use Rattle.std.proofs.Common.{◌≡◌, ◌⊎◌, inl, inr, zero, suc, List, [], ◌∷◌, map, flat_map, Option, Some, None, Bool, true, false, refl, sym, ap, subst, ◌∙◌, arith, Bor}
use Rattle.std.specs.Prelude.{not}
use Rattle.std.specs.List.{All}
use Rattle.std.specs.List.Sorted.{IsPermutation, IsSortedBy}
use Rattle.std.specs.Cmp.{tied_itself}
use Rattle.std.specs.Cmp.Lexicographic.{slice_cmp, lists_ties, texts_ties}
use Rattle.std.specs.Ordering.{is_lt, is_eq, nat_cmp, ordering_reverse}
use Rattle.std.specs.declared.cmp.Ordering.TheVariants.{Less}
use Rattle.std.proofs.lemmas.List.Sorted.{IsPermutation-refl, IsPermutation-sym, IsPermutation-cons, IsPermutation-map, IsPermutation-middle, IsPermutation-trans, All-permutation}
use Rattle.cat_codes.specs.Code.{follows, ascends, keys_ascend}
use Rattle.cat_names.specs.Fields.{Key, key_cmp}
use Rattle.cat_model.specs.declared.op.Op.{Op}
use Rattle.cat_model.specs.declared.op.Op.TheVariants.{Put, Delete, Unchanged}
use Rattle.cat_model.specs.Distinct.{are_distinct}
use Rattle.cat_model.specs.Judge.{op_key, op_changes, with_op, by_key}
use Rattle.cat_model.specs.Same.{same_key}
use Rattle.cat_keymap.specs.KeyOrder.{key_total, less_is, both_true, and_true, ascends_lower}
use Rattle.cat_keymap.specs.Ordered.{no_fall, climbs, values, rise, are_ordered}
use Rattle.cat_keymap.specs.Unlike.{unlike}
use Rattle.cat_keymap.proofs.Twice.{climbing, neighbours, distinct_is}

pub same_is : (a b : Key) → same_key a b ≡ is_eq (key_cmp a b)
same_is a b = lists_ties (slice_cmp nat_cmp) texts_ties a b

keys_of : (rs : List (Bor Op)) → map op_key (values rs) ≡ map (λ r. op_key r.now) rs
keys_of [] = refl
keys_of (r ∷ rs) = ap (λ (keys : List Key). op_key r.now ∷ keys) (keys_of rs)

-- ---- operations whose keys do not fall

-- a list that grew by insertion does not fall
with_climbs : (last : Option Key) (op : Op) (ops : List Op) → no_fall key_cmp last (op_key op) ≡ true → climbs key_cmp last (map op_key ops) ≡ true → climbs key_cmp last (map op_key (with_op op ops)) ≡ true
with_climbs last op [] f up = both_true _ _ f refl
with_climbs last op (first ∷ ops) f up =
    by (and_true (no_fall key_cmp last (op_key first)) (climbs key_cmp (Some (op_key first)) (map op_key ops)) up)
    (λ n. with_climbs (Some (op_key first)) op ops n (and_true (no_fall key_cmp last (op_key first)) (climbs key_cmp (Some (op_key first)) (map op_key ops)) up).1)
    (is_lt (key_cmp (op_key op) (op_key first))) refl
  where
    by : (no_fall key_cmp last (op_key first) ≡ true) × (climbs key_cmp (Some (op_key first)) (map op_key ops) ≡ true)
        → (not (is_lt (key_cmp (op_key op) (op_key first))) ≡ true → climbs key_cmp (Some (op_key first)) (map op_key (with_op op ops)) ≡ true)
        → (b : Bool) → is_lt (key_cmp (op_key op) (op_key first)) ≡ b → climbs key_cmp last (map op_key (with_op op (first ∷ ops))) ≡ true
    by parts rest true e =
        let back : is_lt (key_cmp (op_key first) (op_key op)) ≡ false = ap is_lt (key_total.antisymm (op_key first) (op_key op) ∙ ap ordering_reverse (less_is _ e)) in
        rw e (both_true _ _ f (both_true _ _ (ap not back) parts.1))
    by parts rest false e = rw e (both_true _ _ parts.0 (rest (ap not e)))

by_key_climbs : (ops : List Op) → climbs key_cmp None (map op_key (by_key ops)) ≡ true
by_key_climbs [] = refl
by_key_climbs (op ∷ ops) = with_climbs None op (by_key ops) refl (by_key_climbs ops)

-- ---- an ascending list is told by its operations

In : Op → List Op → Type 0
In x [] = ⊥
In x (y ∷ ys) = (x ≡ y) ⊎ In x ys

all_above : (k : Key) (ops : List Op) (x : Op) → rise (Some k) (map op_key ops) ≡ true → In x ops → key_cmp k (op_key x) ≡ Less
unfolding In
all_above k [] x up at = absurd at
all_above k (y ∷ ops) x up (inl e) = let t = and_true (follows key_cmp (Some k) (op_key y)) (rise (Some (op_key y)) (map op_key ops)) up in rw e (less_is _ t.0)
all_above k (y ∷ ops) x up (inr at) =
    let t = and_true (follows key_cmp (Some k) (op_key y)) (rise (Some (op_key y)) (map op_key ops)) up in
    key_total.trans k (op_key y) (op_key x) (less_is _ t.0) (all_above (op_key y) ops x t.1 at)

not_below_itself : (x : Op) → key_cmp (op_key x) (op_key x) ≡ Less → ⊥
not_below_itself x e = let same = tied_itself key_total (op_key x) in absurd cc

any_rise : (k : Key) (ks : List Key) → rise (Some k) ks ≡ true → rise None ks ≡ true
any_rise k [] up = refl
any_rise k (x ∷ ks) up = (and_true (follows key_cmp (Some k) x) (rise (Some x) ks) up).1

-- operations in ascending lists with the same members
one_list : (xs ys : List Op) → rise None (map op_key xs) ≡ true → rise None (map op_key ys) ≡ true → ((x : Op) → In x xs → In x ys) → ((x : Op) → In x ys → In x xs) → xs ≡ ys
unfolding In
one_list [] [] u v to back = refl
one_list [] (y ∷ ys) u v to back = absurd (back y (inl refl))
one_list (x ∷ xs) [] u v to back = absurd (to x (inl refl))
one_list (x ∷ xs) (y ∷ ys) u v to back =
    let head : x ≡ y = first (to x (inl refl)) (back y (inl refl)) in
    let rest : xs ≡ ys = one_list xs ys (any_rise (op_key x) (map op_key xs) u) (any_rise (op_key y) (map op_key ys) v)
    (λ z at. later z x xs y ys head u at (to z (inr at))) (λ z at. later z y ys x xs (sym head) v at (back z (inr at))) in
    λ i. head i ∷ rest i
  where
    first : (x ≡ y) ⊎ In x ys → (y ≡ x) ⊎ In y xs → x ≡ y
    first (inl e) b = e
    first (inr a) (inl e) = sym e
    first (inr a) (inr b) = absurd (not_below_itself x (key_total.trans (op_key x) (op_key y) (op_key x) (all_above (op_key x) xs y u b) (all_above (op_key y) ys x v a)))

    later : (z x : Op) (xs : List Op) (y : Op) (ys : List Op) → x ≡ y → rise (Some (op_key x)) (map op_key xs) ≡ true → In z xs → (z ≡ y) ⊎ In z ys → In z ys
    later z x xs y ys h u at (inl e) = absurd (not_below_itself x (subst (λ (w : Op). key_cmp (op_key x) (op_key w) ≡ Less) (e ∙ sym h) (all_above (op_key x) xs z u at)))
    later z x xs y ys h u at (inr a) = a

all_in : (xs : List Op) → All (λ z. In z xs) xs
unfolding In
all_in [] k d lt = absurd (omega arith)
all_in (x ∷ xs) zero d lt = inl refl
all_in (x ∷ xs) (suc k) d lt = inr (all_in xs k d (omega arith))

from_all : (P : Op → Type 0) (xs : List Op) (x : Op) → All P xs → In x xs → P x
unfolding In
from_all P [] x all at = absurd at
from_all P (y ∷ ys) x all (inl e) = subst P (sym e) (all 0 x (omega arith))
from_all P (y ∷ ys) x all (inr at) = from_all P ys x (λ k d lt. all (suc k) d (omega arith)) at

permuted_in : (xs ys : List Op) → IsPermutation xs ys → (x : Op) → In x xs → In x ys
permuted_in xs ys p x at = from_all (λ z. In z ys) xs x (All-permutation (λ z. In z ys) ys xs (IsPermutation-sym xs ys p) (all_in ys)) at

-- ---- by insertion and by sorting

with_permuted : (op : Op) (ops : List Op) → IsPermutation (op ∷ ops) (with_op op ops)
with_permuted op [] = IsPermutation-refl (op ∷ [])
with_permuted op (first ∷ ops) = by (with_permuted op ops) (is_lt (key_cmp (op_key op) (op_key first))) refl
  where
    by : IsPermutation (op ∷ ops) (with_op op ops) → (b : Bool) → is_lt (key_cmp (op_key op) (op_key first)) ≡ b → IsPermutation (op ∷ first ∷ ops) (with_op op (first ∷ ops))
    by rest true e = rw e (IsPermutation-refl (op ∷ first ∷ ops))
    by rest false e = rw e (IsPermutation-trans (op ∷ first ∷ ops) (first ∷ op ∷ ops) (first ∷ with_op op ops) (IsPermutation-middle (op ∷ []) first ops) (IsPermutation-cons first (op ∷ ops) (with_op op ops) rest))

by_key_permuted : (ops : List Op) → IsPermutation ops (by_key ops)
by_key_permuted [] = IsPermutation-refl []
by_key_permuted (op ∷ ops) = IsPermutation-trans (op ∷ ops) (op ∷ by_key ops) (with_op op (by_key ops)) (IsPermutation-cons op ops (by_key ops) (by_key_permuted ops)) (with_permuted op (by_key ops))

-- on distinct keys they ascend
by_key_ordered : (ops : List Op) → are_distinct ops ≡ true → are_ordered (by_key ops) ≡ true
by_key_ordered ops once =
    climbing key_cmp key_total same_key same_is (map op_key ops) (map op_key (by_key ops)) (IsPermutation-map op_key ops (by_key ops) (by_key_permuted ops)) (by_key_climbs ops) ∙ distinct_is ops ∙ once

pub sorted_ordered : (ops : List Op) (xs ys : List (Bor Op)) → are_distinct ops ≡ true → values xs ≡ ops → IsPermutation xs ys → IsSortedBy (λ a b. is_lt (key_cmp (op_key a.now) (op_key b.now))) ys → are_ordered (values ys) ≡ true
sorted_ordered ops xs ys once v p up =
    let given : map (λ r. op_key r.now) xs ≡ map op_key ops = sym (keys_of xs) ∙ ap (map op_key) v in
    ap (keys_ascend key_cmp None) (keys_of ys) ∙ neighbours key_cmp key_total same_key same_is (λ r. op_key r.now) xs ys p up ∙ ap (unlike same_key) given ∙ distinct_is ops ∙ once

pub sorted_is : (ops : List Op) (xs ys : List (Bor Op)) → are_distinct ops ≡ true → values xs ≡ ops → IsPermutation xs ys → IsSortedBy (λ a b. is_lt (key_cmp (op_key a.now) (op_key b.now))) ys → values ys ≡ by_key ops
sorted_is ops xs ys once v p up =
    let moved : IsPermutation ops (values ys) = subst (λ (l : List Op). IsPermutation l (values ys)) v (IsPermutation-map (λ r. r.now) xs ys p) in
    let placed = by_key_permuted ops in
    one_list (values ys) (by_key ops) (sorted_ordered ops xs ys once v p up) (by_key_ordered ops once)
    (λ x at. permuted_in ops (by_key ops) placed x (permuted_in (values ys) ops (IsPermutation-sym ops (values ys) moved) x at))
    (λ x at. permuted_in ops (values ys) moved x (permuted_in (by_key ops) ops (IsPermutation-sym ops (by_key ops) placed) x at))

-- ---- the changes of operations in order

pub changes_ascend : (last : Option Key) (ops : List Op) → rise last (map op_key ops) ≡ true → ascends key_cmp last (flat_map op_changes ops) ≡ true
changes_ascend last [] up = refl
changes_ascend last (Put key entry fresh ∷ ops) up = let t = and_true (follows key_cmp last key) (rise (Some key) (map op_key ops)) up in both_true _ _ t.0 (changes_ascend (Some key) ops t.1)
changes_ascend last (Delete key ∷ ops) up = let t = and_true (follows key_cmp last key) (rise (Some key) (map op_key ops)) up in both_true _ _ t.0 (changes_ascend (Some key) ops t.1)
changes_ascend last (Unchanged key ∷ ops) up =
    let t = and_true (follows key_cmp last key) (rise (Some key) (map op_key ops)) up in
    ascends_lower key last (flat_map op_changes ops) t.0 (changes_ascend (Some key) ops t.1)
