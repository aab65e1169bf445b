-- The children of a key follow it.
use Rattle.std.proofs.Common.{◌≡◌, ℕ, suc, ◌-◌, List, take, [], ◌∷◌, length, Some, None, Bool, true, false, ◌&&◌, ◌||◌, refl, sym, ap, subst, ◌∙◌, arith, nat_eq}
use Rattle.std.specs.Prelude.{not}
use Rattle.std.specs.Str.{bytes_eq}
use Rattle.std.specs.List.{starts_with}
use Rattle.std.specs.Ordering.{is_lt, is_le, is_eq, nat_cmp, ordering_reverse}
use Rattle.std.specs.Cmp.{tied_itself, tied_back}
use Rattle.std.specs.Cmp.Lexicographic.{pointwise, slice_cmp, nat_list_eq_equiv, nat_list_cmp_total, same_text, texts_ties, lists_ties}
use Rattle.std.specs.declared.cmp.Ordering.{Ordering}
use Rattle.std.specs.declared.cmp.Ordering.TheVariants.{Less, Equal, Greater}
use Rattle.cat_codes.specs.Code.{ascends}
use Rattle.cat_names.specs.Fields.{Key, key_cmp}
use Rattle.cat_model.specs.declared.entry.Entry.{Entry}
use Rattle.cat_model.specs.Keys.{begins_with, is_child, parent}
use Rattle.cat_model.specs.Maps.{Map, IsMap}
use Rattle.cat_model.specs.Namespaces.{has_child}
use Rattle.cat_model.specs.Same.{same_key}
use Rattle.cat_keymap.specs.Places.{above}
use Rattle.cat_keymap.specs.KeyOrder.{key_total, less_is, split3, both_true, and_true, head_tail, ascends_any, ascends_lower, ascends_alike}

-- the same by recursion
proper : Key → Key → Bool
proper [] [] = false
proper [] (y ∷ ys) = true
proper (x ∷ xs) [] = false
proper (x ∷ xs) (y ∷ ys) = pointwise nat_eq x y && proper xs ys

same_either_way : (x y : List ℕ) → bytes_eq y x ≡ bytes_eq x y
same_either_way x y = nat_list_eq_equiv.symm y x

joined : (a b c : Bool) → ((a && b) && not (a && c)) ≡ (a && (b && not c))
joined true b c = refl
joined false b c = refl

is_proper : (key child : Key) → is_child child key ≡ proper key child
unfolding proper
is_proper [] [] = refl
is_proper [] (y ∷ ys) = refl
is_proper (x ∷ xs) [] = refl
is_proper (x ∷ xs) (y ∷ ys) =
    joined (bytes_eq y x) (begins_with ys xs) (same_key ys xs)
    ∙ ap (λ (b : Bool). b && is_child ys xs) (same_either_way x y) ∙ ap (λ (b : Bool). bytes_eq x y && b) (is_proper xs ys)

-- a key begins with elements as the code tests it
pub begins : (key front : Key) → starts_with bytes_eq key front ≡ begins_with key front
begins [] [] = refl
begins [] (y ∷ ys) = refl
begins (x ∷ xs) [] = refl
begins (x ∷ xs) (y ∷ ys) = ap (λ (b : Bool). b && starts_with bytes_eq xs ys) (same_either_way x y) ∙ ap (λ (b : Bool). bytes_eq x y && b) (begins xs ys)

-- a child comes after its parent
child_after : (key child : Key) → proper key child ≡ true → key_cmp child key ≡ Greater
unfolding proper
child_after [] [] e = absurd cc
child_after [] (y ∷ ys) e = refl
child_after (x ∷ xs) [] e = absurd cc
child_after (x ∷ xs) (y ∷ ys) e =
    let a = and_true (pointwise nat_eq x y) (proper xs ys) e in
    let same : x ≡ y = same_text x y (sym a.0) in
    let tied : slice_cmp nat_cmp y x ≡ Equal = rw same (tied_itself nat_list_cmp_total y) in
    rw tied (child_after xs ys a.1)

-- a key comes no earlier than one that it begins with
pub begins_after : (front key : Key) → begins_with key front ≡ true → is_le (key_cmp front key) ≡ true
begins_after [] [] e = refl
begins_after [] (y ∷ ys) e = refl
begins_after (x ∷ xs) [] e = absurd cc
begins_after (x ∷ xs) (y ∷ ys) e =
    let a = and_true (bytes_eq y x) (begins_with ys xs) e in
    let same : y ≡ x = same_text y x (sym a.0) in
    let tied : slice_cmp nat_cmp x y ≡ Equal = rw same (tied_itself nat_list_cmp_total x) in
    rw tied (begins_after xs ys a.1)

-- what stands between a key and one that begins with it begins with it too
pub between : (key mid other : Key) → key_cmp key mid ≡ Less → key_cmp mid other ≡ Less → begins_with other key ≡ true → begins_with mid key ≡ true
between [] [] other h g e = absurd cc
between [] (b ∷ bs) other h g e = refl
between (x ∷ xs) [] other h g e = absurd cc
between (x ∷ xs) (b ∷ bs) [] h g e = absurd cc
between (x ∷ xs) (b ∷ bs) (d ∷ ds) h g e =
    let a = and_true (bytes_eq d x) (begins_with ds xs) e in
    let same : x ≡ d = sym (same_text d x (sym a.0)) in
    split3 (slice_cmp nat_cmp x b)
    (λ o. let back : slice_cmp nat_cmp b d ≡ Greater = rw (← same) (nat_list_cmp_total.antisymm b x ∙ ap ordering_reverse o) in
    let bad : Greater ≡ Less = rw back at g in absurd cc)
    (λ o. let back : slice_cmp nat_cmp b x ≡ Equal = tied_back nat_list_cmp_total x b o in
    let tied : slice_cmp nat_cmp b d ≡ Equal = rw (← same) back in
    both_true _ _ (texts_ties b x ∙ ap is_eq back) (between xs bs ds (rw o at h) (rw tied at g) a.1))
    (λ o. let bad : Greater ≡ Less = rw o at h in absurd cc)

no_child : (key other : Key) (o : Ordering) → key_cmp other key ≡ o → (o ≡ Greater → ⊥) → is_child other key ≡ false
no_child key other o e not = by (is_child other key) refl
  where
    by : (b : Bool) → is_child other key ≡ b → is_child other key ≡ false
    by false h = h
    by true h = absurd (not (sym e ∙ child_after key other (sym (is_proper key other) ∙ h)))

any_skips : (key : Key) (x : Key × Entry) (map : Map) → is_child x.0 key ≡ false → has_child (x ∷ map) key ≡ has_child map key
any_skips key x map e = ap (λ (b : Bool). b || has_child map key) e

-- the children are among the pairs above
pub among_above : (map : Map) (key : Key) → has_child map key ≡ has_child (above map key) key
among_above [] key = refl
among_above (x ∷ map) key = split3 (key_cmp x.0 key)
    (λ e. any_skips key x map (no_child key x.0 Less e (λ h. absurd cc)) ∙ among_above map key ∙ rw e refl)
    (λ e. any_skips key x map (no_child key x.0 Equal e (λ h. absurd cc)) ∙ rw e refl)
    (λ e. rw e refl)

-- if the first above is no child, none is
none_later : (key y : Key) (map : Map) → key_cmp key y ≡ Less → is_child y key ≡ false → ascends key_cmp (Some y) map ≡ true → has_child map key ≡ false
none_later key y [] lt e up = refl
none_later key y (z ∷ map) lt e up =
    let a = head_tail (Some y) z map up in
    let up_z : key_cmp y z.0 ≡ Less = less_is _ a.0 in
    let not : is_child z.0 key ≡ false = by (is_child z.0 key) refl in
    any_skips key z map not ∙ none_later key y map lt e (ascends_lower z.0 (Some y) map a.0 a.1)
  where
    by : (b : Bool) → is_child z.0 key ≡ b → is_child z.0 key ≡ false
    by false h = h
    by true h =
        let inside = and_true (begins_with z.0 key) (not (same_key z.0 key)) h in
        let mid : begins_with y key ≡ true = between key y z.0 lt (less_is _ (head_tail (Some y) z map up).0) inside.0 in
        let apart : same_key y key ≡ false = lists_ties (slice_cmp nat_cmp) texts_ties y key ∙ ap is_eq (key_total.antisymm y key ∙ ap ordering_reverse lt) in
        let yes : is_child y key ≡ true = both_true _ _ mid (ap not apart) in absurd cc

-- the pairs above a key ascend above it
pub above_ascends : (map : Map) (key : Key) → IsMap map → ascends key_cmp (Some key) (above map key) ≡ true
above_ascends [] key up = refl
above_ascends (x ∷ map) key up =
    let t = (head_tail None x map up).1 in
    split3 (key_cmp x.0 key)
    (λ o. rw o (above_ascends map key (ascends_any x.0 map t)))
    (λ o. rw o (ascends_alike x.0 key map o t))
    (λ o. let lower : is_lt (key_cmp key x.0) ≡ true = ap is_lt (key_total.antisymm key x.0 ∙ ap ordering_reverse o) in rw o (both_true _ _ lower t))

first_decides : (key : Key) (y : Key × Entry) (rest : Map) → ascends key_cmp (Some key) (y ∷ rest) ≡ true → is_child y.0 key ≡ has_child (y ∷ rest) key
first_decides key y rest up = by (is_child y.0 key) refl
  where
    by : (b : Bool) → is_child y.0 key ≡ b → is_child y.0 key ≡ has_child (y ∷ rest) key
    by true h = h ∙ sym (ap (λ (b : Bool). b || has_child rest key) h)
    by false h =
        let t = head_tail (Some key) y rest up in
        h ∙ sym (any_skips key y rest h ∙ none_later key y.0 rest (less_is _ t.0) h t.1)

pub IsMap-above : (map : Map) (key : Key) → IsMap map → IsMap (above map key)
IsMap-above map key up = ascends_any key (above map key) (above_ascends map key up)

pub first_there : (map : Map) (key : Key) (m : Map) (y : Key × Entry) (rest : Map) → IsMap map → m ≡ above map key → m ≡ y ∷ rest → is_child y.0 key ≡ has_child map key
first_there map key m y rest up e at =
    let all : y ∷ rest ≡ above map key = sym at ∙ e in
    first_decides key y rest (subst (λ (m : Map). ascends key_cmp (Some key) m ≡ true) (sym all) (above_ascends map key up)) ∙ ap (λ (m : Map). has_child m key) all ∙ sym (among_above map key)

pub none_there : (map : Map) (key : Key) (m : Map) → m ≡ above map key → m ≡ [] → has_child map key ≡ false
none_there map key m e none = among_above map key ∙ ap (λ (m : Map). has_child m key) (sym e ∙ none)

-- all elements but the last are the front of that length
pub parent_is : (key : Key) → take (length key - 1) key ≡ parent key
parent_is [] = refl
parent_is (x ∷ []) = refl
parent_is (x ∷ y ∷ key) =
    let n : length (x ∷ y ∷ key) - 1 ≡ suc (length (y ∷ key) - 1) = omega arith in
    ap (λ (n : ℕ). take n (x ∷ y ∷ key)) n ∙ ap (λ (k : Key). x ∷ k) (parent_is (y ∷ key))
