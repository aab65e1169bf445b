-- The pairs of keys that are looked up one after another.
use Rattle.std.proofs.Common.{◌≡◌, ◌+◌, List, [], ◌∷◌, ◌++◌, map, Some, None, Bool, true, false, not, ◌||◌, cond, refl, sym, ap, ◌∙◌}
use Rattle.std.specs.Prelude.{filter}
use Rattle.std.specs.List.Sorted.{IsPermutation}
use Rattle.std.specs.Cmp.{tied_back}
use Rattle.std.specs.Ordering.{is_lt, is_eq, ordering_reverse}
use Rattle.std.specs.declared.cmp.Ordering.TheVariants.{Less}
use Rattle.std.proofs.lemmas.List.Sorted.{list_any-IsPermutation}
use Rattle.cat_codes.specs.Code.{ascends}
use Rattle.cat_names.specs.Fields.{Key, key_cmp}
use Rattle.cat_model.specs.declared.entry.Entry.{Entry}
use Rattle.cat_model.specs.Maps.{Map, IsMap, entry_of, present}
use Rattle.cat_model.specs.Same.{same_key}
use Rattle.cat_keymap.specs.KeyOrder.{key_total, less_is, split3, both_true, and_true, below_alike, head_tail, ascends_any, ascends_lower, ascends_alike}
use Rattle.cat_keymap.specs.MapLaws.{entry_is, none_above, key_same}
use Rattle.cat_keymap.specs.Ordered.{no_fall, climbs}
use Rattle.cat_keymap.specs.Places.{above}
use Rattle.cat_keymap.specs.Range.{is_among, named, all_looked_up}
use Rattle.cat_keymap.proofs.Sorting.{same_is}
use Rattle.cat_keymap.proofs.Walks.{above_later}
use Rattle.cat_keymap.proofs.Within.{above_ascends, IsMap-above}

-- the order of the keys is nothing to the pairs
pub permuted : (xs ys : List Key) (map : Map) → IsPermutation xs ys → named ys map ≡ named xs map
permuted xs ys map p = λ i. filter (λ (x : Key × Entry). sym (list_any-IsPermutation (λ (other : Key). same_key other x.0) xs ys p) i) map

-- ---- the pairs of the least key, and of the others

lower_still : (x last key : Key) → key_cmp x last ≡ Less → no_fall key_cmp (Some last) key ≡ true → key_cmp x key ≡ Less
lower_still x last key lt n = split3 (key_cmp last key)
    (λ o. key_total.trans x last key lt o)
    (λ o. below_alike last key x o lt)
    (λ o. let back : key_cmp key last ≡ Less = key_total.antisymm key last ∙ ap ordering_reverse o in
    let no : not (is_lt (key_cmp key last)) ≡ false = rw back refl in absurd cc)

other_below : (x key : Key) → key_cmp x key ≡ Less → same_key key x ≡ false
other_below x key lt = same_is key x ∙ ap is_eq (key_total.antisymm key x ∙ ap ordering_reverse lt)

none_among : (x last : Key) (keys : List Key) → key_cmp x last ≡ Less → climbs key_cmp (Some last) keys ≡ true → is_among keys x ≡ false
none_among x last [] lt up = refl
none_among x last (key ∷ keys) lt up =
    let t = and_true (no_fall key_cmp (Some last) key) (climbs key_cmp (Some key) keys) up in
    let lower = lower_still x last key lt t.0 in
    ap (λ (b : Bool). b || is_among keys x) (other_below x key lower) ∙ none_among x key keys lower t.1

-- a key says nothing of the pairs above it
none_of : (key : Key) (keys : List Key) (map : Map) → ascends key_cmp (Some key) map ≡ true → named (key ∷ keys) map ≡ named keys map
none_of key keys [] up = refl
none_of key keys (z ∷ map) up =
    let t = head_tail (Some key) z map up in
    let other : same_key key z.0 ≡ false = same_is key z.0 ∙ ap is_eq (less_is _ t.0) in
    let rest = none_of key keys map (ascends_lower z.0 (Some key) map t.0 t.1) in
    let all = named (key ∷ keys) map in
    ap (λ (b : Bool). cond (b || is_among keys z.0) (z ∷ all) all) other ∙ ap (λ (m : Map). cond (is_among keys z.0) (z ∷ m) m) rest

taken : (key : Key) (keys : List Key) (map : Map) → IsMap map → climbs key_cmp (Some key) keys ≡ true
    → named (key ∷ keys) map ≡ present (key, entry_of map key) ++ named keys (above map key)
taken key keys [] up climb = refl
taken key keys (x ∷ map) up climb =
    let t = (head_tail None x map up).1 in
    let all = named (key ∷ keys) map in
    split3 (key_cmp x.0 key)
    (λ o. let out : is_among (key ∷ keys) x.0 ≡ false = ap (λ (b : Bool). b || is_among keys x.0) (other_below x.0 key o) ∙ none_among x.0 key keys o climb in
    ap (λ (b : Bool). cond b (x ∷ all) all) out ∙ taken key keys map (ascends_any x.0 map t) climb ∙ rw o refl)
    (λ o. let here : same_key key x.0 ≡ true = same_is key x.0 ∙ ap is_eq (tied_back key_total x.0 key o) in
    ap (λ (b : Bool). cond (b || is_among keys x.0) (x ∷ all) all) here
    ∙ ap (λ (m : Map). x ∷ m) (none_of key keys map (ascends_alike x.0 key map o t))
    ∙ ap (λ (k : Key). (k, x.1) ∷ named keys map) (key_same x.0 key o) ∙ rw o refl)
    (λ o. let lower : key_cmp key x.0 ≡ Less = key_total.antisymm key x.0 ∙ ap ordering_reverse o in
    let none : entry_of map key ≡ None = entry_is map key ∙ none_above key x.0 map lower t in
    none_of key keys (x ∷ map) (both_true _ _ (rw lower refl) t) ∙ rw (o, none) refl)

-- ---- each key looked up by itself

above_both : (map : Map) (last key : Key) → key_cmp last key ≡ Less → above (above map last) key ≡ above map key
above_both [] last key lt = refl
above_both (x ∷ map) last key lt = split3 (key_cmp x.0 last)
    (λ o. let lower : key_cmp x.0 key ≡ Less = key_total.trans x.0 last key o lt in rw (o, lower) (above_both map last key lt))
    (λ o. let lower : key_cmp x.0 key ≡ Less = key_total.congr x.0 last key o ∙ lt in rw (o, lower) refl)
    (λ o. rw o refl)

named_none : (map : Map) → named [] map ≡ []
named_none [] = refl
named_none (x ∷ map) = named_none map

above_last : (last : Key) (keys : List Key) (map : Map) → IsMap map → climbs key_cmp (Some last) keys ≡ true → all_looked_up (Some last) keys map ≡ named keys (above map last)
above_last last [] map up climb = sym (named_none (above map last))
above_last last (key ∷ keys) map up climb =
    let t = and_true (no_fall key_cmp (Some last) key) (climbs key_cmp (Some key) keys) climb in
    let rest = above_last key keys map up t.1 in
    split3 (key_cmp last key)
    (λ o. let found = above_later map last key o in
    let left = above_both map last key o in
    rw o (ap (λ (m : Map). present (key, entry_of map key) ++ m) rest)
    ∙ sym (taken key keys (above map last) (IsMap-above map last up) t.1 ∙ (λ i. present (key, found i) ++ named keys (left i))))
    (λ o. let one = key_same last key o in
    rw o rest ∙ ap (λ (k : Key). named keys (above map k)) (sym one)
    ∙ sym (none_of key keys (above map last) (ascends_alike last key (above map last) o (above_ascends map last up))))
    (λ o. let back : key_cmp key last ≡ Less = key_total.antisymm key last ∙ ap ordering_reverse o in
    let no : not (is_lt (key_cmp key last)) ≡ false = rw back refl in absurd cc)

pub all_named : (keys : List Key) (map : Map) → IsMap map → climbs key_cmp None keys ≡ true → all_looked_up None keys map ≡ named keys map
all_named [] map up climb = sym (named_none map)
all_named (key ∷ keys) map up climb = ap (λ (m : Map). present (key, entry_of map key) ++ m) (above_last key keys map up climb) ∙ sym (taken key keys map up climb)
