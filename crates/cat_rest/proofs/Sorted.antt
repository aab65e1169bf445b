-- Modes that are sorted by their keys are those that insertion gives.
use Rattle.std.proofs.Common.{◌≡◌, ◌⊎◌, inl, inr, zero, suc, List, [], ◌∷◌, map, Option, Some, None, Bool, true, false, ◌&&◌, if◌then◌else◌, refl, sym, ap, subst, ◌∙◌, arith}
use Rattle.std.specs.Prelude.{not}
use Rattle.std.specs.List.{Contains}
use Rattle.std.specs.List.Sorted.{IsPermutation, IsSortedBy}
use Rattle.std.specs.Cmp.{tied_itself}
use Rattle.std.specs.Cmp.Lexicographic.{slice_cmp, lists_ties, texts_ties}
use Rattle.std.specs.Ordering.{is_lt, is_eq, nat_cmp, ordering_reverse}
use Rattle.std.specs.declared.cmp.Ordering.TheVariants.{Less}
use Rattle.std.proofs.lemmas.List.Sorted.{IsPermutation-refl, IsPermutation-sym, IsPermutation-cons, IsPermutation-map, IsPermutation-middle, IsPermutation-trans, Contains-permutation}
use Rattle.cat_codes.specs.Code.{follows, ascends, keys_ascend}
use Rattle.cat_names.specs.Fields.{Key, key_cmp}
use Rattle.cat_model.specs.Same.{same_key}
use Rattle.cat_keymap.specs.KeyOrder.{key_total, less_is, both_true, and_true, head_tail, ascends_any, all_above}
use Rattle.cat_keymap.specs.Unlike.{unlike}
use Rattle.cat_keymap.specs.Ordered.{no_fall, climbs}
use Rattle.cat_keymap.proofs.Twice.{climbing, neighbours}
use Rattle.cat_rest.specs.Modes.{Mode, with_mode, by_key, in_order}

same_is : (a b : Key) → same_key a b ≡ is_eq (key_cmp a b)
same_is a b = lists_ties (slice_cmp nat_cmp) texts_ties a b

abbrev keys : List Mode → List Key
keys modes = map (λ m. m.0) modes

ascends_is : (last : Option Key) (modes : List Mode) → ascends key_cmp last modes ≡ keys_ascend key_cmp last (keys modes)
ascends_is last [] = refl
ascends_is last (m ∷ ms) = ap (λ (b : Bool). follows key_cmp last m.0 && b) (ascends_is (Some m.0) ms)

-- ---- insertion keeps the modes, and their keys don't fall

with_permuted : (m : Mode) (ms : List Mode) → IsPermutation (m ∷ ms) (with_mode m ms)
with_permuted m [] = IsPermutation-refl (m ∷ [])
with_permuted m (first ∷ ms) = by (with_permuted m ms) (is_lt (key_cmp m.0 first.0)) refl
  where
    by : IsPermutation (m ∷ ms) (with_mode m ms) → (b : Bool) → is_lt (key_cmp m.0 first.0) ≡ b → IsPermutation (m ∷ first ∷ ms) (with_mode m (first ∷ ms))
    by rest true e = rw e (IsPermutation-refl (m ∷ first ∷ ms))
    by rest false e = rw e (IsPermutation-trans (m ∷ first ∷ ms) (first ∷ m ∷ ms) (first ∷ with_mode m ms) (IsPermutation-middle (m ∷ []) first ms) (IsPermutation-cons first (m ∷ ms) (with_mode m ms) rest))

by_key_permuted : (ms : List Mode) → IsPermutation ms (by_key ms)
by_key_permuted [] = IsPermutation-refl []
by_key_permuted (m ∷ ms) = IsPermutation-trans (m ∷ ms) (m ∷ by_key ms) (with_mode m (by_key ms)) (IsPermutation-cons m ms (by_key ms) (by_key_permuted ms)) (with_permuted m (by_key ms))

with_climbs : (last : Option Key) (m : Mode) (ms : List Mode) → no_fall key_cmp last m.0 ≡ true → climbs key_cmp last (keys ms) ≡ true → climbs key_cmp last (keys (with_mode m ms)) ≡ true
with_climbs last m [] f up = both_true _ _ f refl
with_climbs last m (first ∷ ms) f up =
    by (and_true (no_fall key_cmp last first.0) (climbs key_cmp (Some first.0) (keys ms)) up)
    (λ n. with_climbs (Some first.0) m ms n (and_true (no_fall key_cmp last first.0) (climbs key_cmp (Some first.0) (keys ms)) up).1)
    (is_lt (key_cmp m.0 first.0)) refl
  where
    by : (no_fall key_cmp last first.0 ≡ true) × (climbs key_cmp (Some first.0) (keys ms) ≡ true)
        → (not (is_lt (key_cmp m.0 first.0)) ≡ true → climbs key_cmp (Some first.0) (keys (with_mode m ms)) ≡ true)
        → (b : Bool) → is_lt (key_cmp m.0 first.0) ≡ b → climbs key_cmp last (keys (with_mode m (first ∷ ms))) ≡ true
    by parts rest true e =
        let back : is_lt (key_cmp first.0 m.0) ≡ false = ap is_lt (key_total.antisymm first.0 m.0 ∙ ap ordering_reverse (less_is _ e)) in
        rw e (both_true _ _ f (both_true _ _ (ap not back) parts.1))
    by parts rest false e = rw e (both_true _ _ parts.0 (rest (ap not e)))

by_key_climbs : (ms : List Mode) → climbs key_cmp None (keys (by_key ms)) ≡ true
by_key_climbs [] = refl
by_key_climbs (m ∷ ms) = with_climbs None m (by_key ms) refl (by_key_climbs ms)

by_key_ascends : (ms : List Mode) → unlike same_key (keys ms) ≡ true → ascends key_cmp None (by_key ms) ≡ true
by_key_ascends ms once =
    ascends_is None (by_key ms)
    ∙ climbing key_cmp key_total same_key same_is (keys ms) (keys (by_key ms)) (IsPermutation-map (λ (m : Mode). m.0) ms (by_key ms) (by_key_permuted ms)) (by_key_climbs ms)
    ∙ once

-- ---- an ascending list is told by its modes

at_front : (x : Mode) (xs : List Mode) (y : Mode) → Contains (x ∷ xs) y → (x ≡ y) ⊎ Contains xs y
at_front x xs y (zero, lt, e) = inl e
at_front x xs y (suc k, lt, e) = inr (k, omega (arith, lt), e)

one_more : (x : Mode) (xs : List Mode) (y : Mode) → Contains xs y → Contains (x ∷ xs) y
one_more x xs y (k, lt, e) = (suc k, omega (arith, lt), e)

here : (x : Mode) (xs : List Mode) → Contains (x ∷ xs) x
here x xs = (0, omega arith, refl)

above : (x : Mode) (xs : List Mode) (y : Mode) → ascends key_cmp (Some x.0) xs ≡ true → Contains xs y → key_cmp x.0 y.0 ≡ Less
above x xs y up (k, lt, e) = subst (λ (z : Mode). key_cmp x.0 z.0 ≡ Less) e (all_above x.0 xs k y up lt)

not_below_itself : (x : Mode) → key_cmp x.0 x.0 ≡ Less → ⊥
not_below_itself x e = let same = tied_itself key_total x.0 in absurd cc

one_list : (xs ys : List Mode) → ascends key_cmp None xs ≡ true → ascends key_cmp None ys ≡ true → ((z : Mode) → Contains xs z → Contains ys z) → ((z : Mode) → Contains ys z → Contains xs z) → xs ≡ ys
one_list [] [] u v to back = refl
one_list [] (y ∷ ys) u v to back = none (back y (here y ys))
  where
    none : Contains [] y → [] ≡ y ∷ ys
    none (k, lt, e) = absurd (omega (arith, lt))
one_list (x ∷ xs) [] u v to back = none (to x (here x xs))
  where
    none : Contains [] x → x ∷ xs ≡ []
    none (k, lt, e) = absurd (omega (arith, lt))
one_list (x ∷ xs) (y ∷ ys) u v to back =
    let p = (head_tail None x xs u).1 in
    let q = (head_tail None y ys v).1 in
    let head : x ≡ y = first p q (at_front y ys x (to x (here x xs))) (at_front x xs y (back y (here y ys))) in
    let rest : xs ≡ ys = one_list xs ys (ascends_any x.0 xs p) (ascends_any y.0 ys q)
    (λ z at. later z x xs y ys head p at (at_front y ys z (to z (one_more x xs z at))))
    (λ z at. later z y ys x xs (sym head) q at (at_front x xs z (back z (one_more y ys z at)))) in
    λ i. head i ∷ rest i
  where
    first : ascends key_cmp (Some x.0) xs ≡ true → ascends key_cmp (Some y.0) ys ≡ true → (y ≡ x) ⊎ Contains ys x → (x ≡ y) ⊎ Contains xs y → x ≡ y
    first p q (inl e) b = sym e
    first p q (inr a) (inl e) = e
    first p q (inr a) (inr b) = absurd (not_below_itself x (key_total.trans x.0 y.0 x.0 (above x xs y p b) (above y ys x q a)))

    later : (z x : Mode) (xs : List Mode) (y : Mode) (ys : List Mode) → x ≡ y → ascends key_cmp (Some x.0) xs ≡ true → Contains xs z → (y ≡ z) ⊎ Contains ys z → Contains ys z
    later z x xs y ys h p at (inl e) = absurd (not_below_itself x (subst (λ (w : Mode). key_cmp x.0 w.0 ≡ Less) (sym (h ∙ e)) (above x xs z p at)))
    later z x xs y ys h p at (inr a) = a

-- ---- so sorting gives the same

once : (xs ys : List Mode) → IsPermutation xs ys → IsSortedBy (λ a b. is_lt (key_cmp a.0 b.0)) ys → ascends key_cmp None ys ≡ unlike same_key (keys xs)
once xs ys p up = ascends_is None ys ∙ neighbours key_cmp key_total same_key same_is (λ (m : Mode). m.0) xs ys p up

pub in_order_is : (xs ys : List Mode) → IsPermutation xs ys → IsSortedBy (λ a b. is_lt (key_cmp a.0 b.0)) ys → ascends key_cmp None ys ≡ true → in_order xs ≡ Some ys
in_order_is xs ys p up asc =
    let unlike_is = sym (once xs ys p up) ∙ asc in
    let moved = by_key_permuted xs in
    let same : ys ≡ by_key xs = one_list ys (by_key xs) asc (by_key_ascends xs unlike_is)
    (λ z at. Contains-permutation xs (by_key xs) z moved (Contains-permutation ys xs z (IsPermutation-sym xs ys p) at))
    (λ z at. Contains-permutation xs ys z p (Contains-permutation (by_key xs) xs z (IsPermutation-sym xs (by_key xs) moved) at)) in
    ap (λ (b : Bool). if b then Some (by_key xs) else None) unlike_is ∙ ap Some (sym same)

pub none_in_order : (xs ys : List Mode) → IsPermutation xs ys → IsSortedBy (λ a b. is_lt (key_cmp a.0 b.0)) ys → ascends key_cmp None ys ≡ false → in_order xs ≡ None
none_in_order xs ys p up asc = ap (λ (b : Bool). if b then Some (by_key xs) else None) (sym (once xs ys p up) ∙ asc)
