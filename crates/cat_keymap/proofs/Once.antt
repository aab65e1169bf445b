-- The keys whose entries differ, found among any that have them all.
use Rattle.std.proofs.Common.{◌≡◌, List, [], ◌∷◌, Option, Some, None, Bool, true, false, not, ◌&&◌, ◌||◌, if◌then◌else◌, refl, sym, ap, subst, ◌∙◌}
use Rattle.std.specs.Prelude.{filter, is_none}
use Rattle.std.specs.List.{list_any}
use Rattle.std.specs.List.Sorted.{IsPermutation}
use Rattle.std.specs.Ordering.{is_lt, is_eq, ordering_reverse}
use Rattle.std.specs.declared.cmp.Ordering.TheVariants.{Less}
use Rattle.std.proofs.lemmas.List.Sorted.{list_any-IsPermutation}
use Rattle.cat_codes.specs.Code.{follows}
use Rattle.cat_names.specs.Fields.{Key, key_cmp}
use Rattle.cat_model.specs.Changed.{is_changed, changed_keys}
use Rattle.cat_model.specs.Differs.{differs}
use Rattle.cat_model.specs.Maps.{Map, entry_of}
use Rattle.cat_model.specs.Same.{same_key}
use Rattle.cat_keymap.specs.Among.{Covers, all_tested}
use Rattle.cat_keymap.specs.KeyListLaws.{is_in, one_list, rise_filter, in_filter, changed_rises, and_false}
use Rattle.cat_keymap.specs.KeyOrder.{key_total, split3, both_true, and_true}
use Rattle.cat_keymap.specs.MapLaws.{key_same}
use Rattle.cat_keymap.specs.Ordered.{no_fall, climbs, rise}
use Rattle.cat_keymap.specs.Range.{is_among}
use Rattle.cat_keymap.proofs.Sorting.{same_is}
use Rattle.cat_keymap.proofs.Walks.{changed_in}

-- keys without those that come no later than the one before
abbrev once : Option Key → List Key → List Key
once last [] = []
once last (key ∷ keys) = if follows key_cmp last key then key ∷ once (Some key) keys else once (Some key) keys

-- ---- they ascend, and are the same keys

or_twice : (a b : Bool) → (a || (a || b)) ≡ (a || b)
or_twice true b = refl
or_twice false b = refl

no_lower : {P : Type 0} (l y : Key) → not (is_lt (key_cmp y l)) ≡ true → key_cmp y l ≡ Less → P
no_lower l y n lt = let no : not (is_lt (key_cmp y l)) ≡ false = rw lt refl in absurd cc

once_above : (l : Key) (ys : List Key) → climbs key_cmp (Some l) ys ≡ true → rise (Some l) (once (Some l) ys) ≡ true
once_above l [] up = refl
once_above l (y ∷ ys) up =
    let t = and_true (no_fall key_cmp (Some l) y) (climbs key_cmp (Some y) ys) up in
    let rest = once_above y ys t.1 in
    split3 (key_cmp l y)
    (λ o. let lt : is_lt (key_cmp l y) ≡ true = ap is_lt o in rw o (both_true _ _ lt rest))
    (λ o. rw o (subst (λ (k : Key). rise (Some k) (once (Some y) ys) ≡ true) (sym (key_same l y o)) rest))
    (λ o. no_lower l y t.0 (key_total.antisymm y l ∙ ap ordering_reverse o))

in_above : (key l : Key) (ys : List Key) → climbs key_cmp (Some l) ys ≡ true → (is_eq (key_cmp l key) || is_in key (once (Some l) ys)) ≡ (is_eq (key_cmp l key) || is_in key ys)
in_above key l [] up = refl
in_above key l (y ∷ ys) up =
    let t = and_true (no_fall key_cmp (Some l) y) (climbs key_cmp (Some y) ys) up in
    let rest = in_above key y ys t.1 in
    let there = is_eq (key_cmp y key) || is_in key ys in
    split3 (key_cmp l y)
    (λ o. rw o (ap (λ (b : Bool). is_eq (key_cmp l key) || b) rest))
    (λ o. let same = ap is_eq (key_total.congr l y key o) in
    rw o (ap (λ (b : Bool). b || is_in key (once (Some y) ys)) same ∙ rest ∙ sym (or_twice (is_eq (key_cmp y key)) (is_in key ys)) ∙ sym (ap (λ (b : Bool). b || there) same)))
    (λ o. no_lower l y t.0 (key_total.antisymm y l ∙ ap ordering_reverse o))

once_rises : (ys : List Key) → climbs key_cmp None ys ≡ true → rise None (once None ys) ≡ true
once_rises [] up = refl
once_rises (y ∷ ys) up = once_above y ys up

once_in : (key : Key) (ys : List Key) → climbs key_cmp None ys ≡ true → is_in key (once None ys) ≡ is_in key ys
once_in key [] up = refl
once_in key (y ∷ ys) up = in_above key y ys up

-- ---- those whose entries differ

module _ (a b : Map) where
  tested_are : (last : Option Key) (ys : List Key) → all_tested a b last ys ≡ filter (is_changed a b) (once last ys)
  tested_are last [] = refl
  tested_are last (y ∷ ys) = by (tested_are (Some y) ys) (follows key_cmp last y) (is_none (differs (entry_of a y) (entry_of b y))) refl refl
    where
      by : all_tested a b (Some y) ys ≡ filter (is_changed a b) (once (Some y) ys) → (f n : Bool) → follows key_cmp last y ≡ f → is_none (differs (entry_of a y) (entry_of b y)) ≡ n
          → all_tested a b last (y ∷ ys) ≡ filter (is_changed a b) (once last (y ∷ ys))
      by rest false n e h = rw e rest
      by rest true true e h = rw (e, h) rest
      by rest true false e h = rw (e, h) (ap (λ (l : List Key). y ∷ l) rest)

  implied : (there changed : Bool) → (changed ≡ true → there ≡ true) → (there && changed) ≡ changed
  implied there true f = rw (f refl) refl
  implied there false f = and_false there

  -- sorted keys, each tested, leave those whose entries differ
  pub changed_is : (keys ys : List Key) → Covers keys a b → IsPermutation keys ys → climbs key_cmp None ys ≡ true → all_tested a b None ys ≡ changed_keys a b
  changed_is keys ys covers p up =
      tested_are None ys
      ∙ one_list (filter (is_changed a b) (once None ys)) (changed_keys a b) (rise_filter (is_changed a b) None (once None ys) (once_rises ys up)) (changed_rises a b)
      (λ key. in_filter (is_changed a b) key (once None ys) ∙ ap (λ (c : Bool). c && is_changed a b key) (once_in key ys up ∙ there key) ∙ implied (is_among keys key) (is_changed a b key) (covers key) ∙ sym (changed_in a b key))
    where
      there : (key : Key) → is_in key ys ≡ is_among keys key
      there key = (λ i. list_any (λ (other : Key). sym (same_is other key) i) ys) ∙ sym (list_any-IsPermutation (λ (other : Key). same_key other key) keys ys p)
