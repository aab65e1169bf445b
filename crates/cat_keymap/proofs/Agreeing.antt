-- What the ordered map says by the order of keys is what is said of maps.
use Rattle.std.proofs.Common.{◌≡◌, ◌≤◌, length, arith, List, [], ◌∷◌, ◌++◌, Option, Some, None, if◌then◌else◌, refl, sym, ap, ◌∙◌}
use Rattle.std.specs.Ordering.{is_eq, ordering_reverse}
use Rattle.std.specs.declared.cmp.Ordering.{Ordering}
use Rattle.std.specs.declared.cmp.Ordering.TheVariants.{Less, Equal, Greater}
use Rattle.cat_names.specs.Fields.{Key, key_cmp}
use Rattle.cat_model.specs.declared.entry.Entry.{Entry}
use Rattle.cat_model.specs.Maps.{Map, Change, IsMap, entry_of, present, placed, after_change, after_changes}
use Rattle.cat_ordered.specs.Maps.{value_of, from_key}
use Rattle.cat_ordered.specs.Maps as ordered
use Rattle.cat_keymap.specs.KeyOrder.{key_total, split3, head_tail, ascends_any}
use Rattle.cat_keymap.specs.MapLaws.{entry_is, none_above}
use Rattle.cat_keymap.specs.Places.{below, above, entry_here, past}

pub value_is : (map : Map) (key : Key) → value_of key_cmp map key ≡ entry_of map key
value_is [] key = refl
value_is (x ∷ map) key = ap (λ (o : Option Entry). if is_eq (key_cmp x.0 key) then Some x.1 else o) (value_is map key)

-- ---- changes

present_is : (change : Change) → ordered.present change ≡ present change
present_is (key, None) = refl
present_is (key, Some entry) = refl

placed_is : (o : Ordering) (change : Change) (x : Key × Entry) (map changed : Map) → ordered.placed o change x map changed ≡ placed o change x map changed
placed_is Less change x map changed = refl
placed_is Equal change x map changed = ap (λ (m : Map). m ++ map) (present_is change)
placed_is Greater change x map changed = ap (λ (m : Map). m ++ x ∷ map) (present_is change)

change_is : (change : Change) (map : Map) → ordered.after_change key_cmp change map ≡ after_change change map
change_is change [] = present_is change
change_is change (x ∷ map) =
    placed_is (key_cmp x.0 change.0) change x map (ordered.after_change key_cmp change map)
    ∙ ap (placed (key_cmp x.0 change.0) change x map) (change_is change map)

pub changes_are : (changes : List Change) (map : Map) → ordered.after_changes key_cmp changes map ≡ after_changes changes map
changes_are [] map = refl
changes_are (c ∷ cs) map = ap (ordered.after_changes key_cmp cs) (change_is c map) ∙ changes_are cs (after_change c map)

-- ---- the pairs from a key on

-- with the key's own pair left out they are those above
pub past_is : (map : Map) (key : Key) → past (from_key key_cmp map key) key ≡ above map key
past_is [] key = refl
past_is (x ∷ map) key = split3 (key_cmp x.0 key) (λ o. rw o (past_is map key)) (λ o. rw o (rw o refl)) (λ o. rw o (rw o refl))

-- the key's own pair is the first, if there is one
pub here_is : (map : Map) (key : Key) → IsMap map → entry_here (from_key key_cmp map key) key ≡ entry_of map key
here_is [] key up = refl
here_is (x ∷ map) key up =
    let t = (head_tail None x map up).1 in
    split3 (key_cmp x.0 key)
    (λ o. rw o (here_is map key (ascends_any x.0 map t)))
    (λ o. rw o (rw o refl))
    (λ o. let lower : key_cmp key x.0 ≡ Less = key_total.antisymm key x.0 ∙ ap ordering_reverse o in rw o (rw o (sym (entry_is map key ∙ none_above key x.0 map lower t))))

from_shorter : (map : Map) (key : Key) → length (from_key key_cmp map key) ≤ length map
from_shorter [] key = omega arith
from_shorter (x ∷ map) key = let rest = from_shorter map key in split3 (key_cmp x.0 key) (λ o. rw o (omega (arith, rest))) (λ o. rw o (omega arith)) (λ o. rw o (omega arith))

-- where they are all, none is below
pub nothing_below : (map : Map) (key : Key) → from_key key_cmp map key ≡ map → below map key ≡ []
nothing_below [] key e = refl
nothing_below (x ∷ map) key e = split3 (key_cmp x.0 key)
    (λ o. let back : from_key key_cmp map key ≡ x ∷ map = rw o at e in let size = ap length back in let short = from_shorter map key in absurd (omega (arith, size, short)))
    (λ o. rw o refl)
    (λ o. rw o refl)

pub IsMap-from_key : (map : Map) (key : Key) → IsMap map → IsMap (from_key key_cmp map key)
IsMap-from_key [] key up = refl
IsMap-from_key (x ∷ map) key up = split3 (key_cmp x.0 key) (λ o. rw o (IsMap-from_key map key (ascends_any x.0 map (head_tail None x map up).1))) (λ o. rw o up) (λ o. rw o up)
