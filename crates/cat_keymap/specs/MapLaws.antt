-- Looking keys up after changes.
use Rattle.std.proofs.Common.{◌≡◌, List, [], ◌∷◌, ◌++◌, Option, Some, None, true, if◌then◌else◌, refl, sym, ap, ◌∙◌}
use Rattle.std.specs.Ordering.{is_eq, ordering_reverse}
use Rattle.std.specs.Cmp.Lexicographic.{pointwise_decides, bytes_decides, lists_ties, texts_ties, slice_cmp}
use Rattle.std.specs.declared.cmp.Ordering.{Ordering}
use Rattle.std.specs.declared.cmp.Ordering.TheVariants.{Less, Equal, Greater}
use Rattle.cat_codes.specs.Code.{follows, ascends}
use Rattle.cat_names.specs.Fields.{Key, key_cmp}
use Rattle.cat_model.specs.declared.entry.Entry.{Entry}
use Rattle.cat_model.specs.Maps.{Map, Change, entry_of, after_change, after_changes, present, placed, IsMap}
use Rattle.cat_keymap.specs.KeyOrder.{key_total, less_is, split3, both_true, head_tail, ascends_any, ascends_lower, ascends_alike}

-- ---- a change keeps the order

kept_by : (o : Ordering) (last : Option Key) (key : Key) (entry : Option Entry) (x : Key × Entry) (map changed : Map) → key_cmp x.0 key ≡ o
    → follows key_cmp last key ≡ true → follows key_cmp last x.0 ≡ true → ascends key_cmp (Some x.0) map ≡ true
    → (follows key_cmp (Some x.0) key ≡ true → ascends key_cmp (Some x.0) changed ≡ true)
    → ascends key_cmp last (placed o (key, entry) x map changed) ≡ true
kept_by Less last key entry x map changed h f g up rest = both_true _ _ g (rest (rw h refl))
kept_by Equal last key None x map changed h f g up rest = ascends_lower x.0 last map g up
kept_by Equal last key (Some entry) x map changed h f g up rest = both_true _ _ f (ascends_alike x.0 key map h up)
kept_by Greater last key None x map changed h f g up rest = both_true _ _ g up
kept_by Greater last key (Some entry) x map changed h f g up rest =
    let above : key_cmp key x.0 ≡ Less = key_total.antisymm key x.0 ∙ ap ordering_reverse h in
    both_true _ _ f (both_true _ _ (rw above refl) up)

ascends_after : (last : Option Key) (key : Key) (entry : Option Entry) (map : Map) → follows key_cmp last key ≡ true → ascends key_cmp last map ≡ true → ascends key_cmp last (after_change (key, entry) map) ≡ true
ascends_after last key None [] f up = refl
ascends_after last key (Some entry) [] f up = both_true _ _ f refl
ascends_after last key entry (x ∷ map) f up =
    let a = head_tail last x map up in
    kept_by (key_cmp x.0 key) last key entry x map (after_change (key, entry) map) refl f a.0 a.1 (λ g. ascends_after (Some x.0) key entry map g a.1)

-- a change of a map gives a map, and so do changes
pub IsMap-after_change : (change : Change) (map : Map) → IsMap map → IsMap (after_change change map)
IsMap-after_change change map up = ascends_after None change.0 change.1 map refl up

pub IsMap-after_changes : (changes : List Change) (map : Map) → IsMap map → IsMap (after_changes changes map)
IsMap-after_changes [] map up = up
IsMap-after_changes (c ∷ cs) map up = IsMap-after_changes cs (after_change c map) (IsMap-after_change c map up)

-- ---- what is found

-- what pairs have at a key
abbrev pub at_key : {V : Type 0} → List (Key × V) → Key → Option V
at_key [] key = None
at_key (x ∷ pairs) key = if is_eq (key_cmp x.0 key) then Some x.1 else at_key pairs key

pub entry_is : (map : Map) (key : Key) → entry_of map key ≡ at_key map key
entry_is [] key = refl
entry_is (x ∷ map) key = ap (λ (o : Option Entry). if is_eq (key_cmp x.0 key) then Some x.1 else o) (entry_is map key)

-- a key below all has no entry
pub none_above : {V : Type 0} (key : Key) (y : Key) (map : List (Key × V)) → key_cmp key y ≡ Less → ascends key_cmp (Some y) map ≡ true → at_key map key ≡ None
none_above key y [] lt up = refl
none_above key y (z ∷ map) lt up =
    let a = head_tail (Some y) z map up in
    let above : key_cmp key z.0 ≡ Less = key_total.trans key y z.0 lt (less_is _ a.0) in
    let greater : key_cmp z.0 key ≡ Greater = key_total.antisymm z.0 key ∙ ap ordering_reverse above in
    rw greater (none_above key z.0 map above a.1)

-- nor has one like the key that all are above
pub none_past : {V : Type 0} (key : Key) (y : Key) (map : List (Key × V)) → key_cmp y key ≡ Equal → ascends key_cmp (Some y) map ≡ true → at_key map key ≡ None
none_past key y [] e up = refl
none_past key y (z ∷ map) e up =
    let a = head_tail (Some y) z map up in
    let above : key_cmp key z.0 ≡ Less = sym (key_total.congr y key z.0 e) ∙ less_is _ a.0 in
    let greater : key_cmp z.0 key ≡ Greater = key_total.antisymm z.0 key ∙ ap ordering_reverse above in
    rw greater (none_above key z.0 map above a.1)

-- keys that compare equal are one
pub key_same : (a b : Key) → key_cmp a b ≡ Equal → a ≡ b
key_same a b e = (pointwise_decides bytes_decides a b).0 (lists_ties (slice_cmp _) texts_ties a b ∙ ap is_eq e)

equal_case : (at : Key) (entry : Option Entry) (x : Key × Entry) (map : Map) (key : Key) → key_cmp x.0 at ≡ Equal → ascends key_cmp (Some x.0) map ≡ true
    → at_key (present (at, entry) ++ map) key ≡ (if is_eq (key_cmp at key) then entry else at_key (x ∷ map) key)
equal_case at None x map key o t =
    let same : key_cmp x.0 key ≡ key_cmp at key = key_total.congr x.0 at key o in
    split3 (key_cmp at key)
    (λ e. let l : key_cmp x.0 key ≡ Less = same ∙ e in rw (e, l) refl)
    (λ e. rw e (none_past key x.0 map (same ∙ e) t))
    (λ e. let l : key_cmp x.0 key ≡ Greater = same ∙ e in rw (e, l) refl)
equal_case at (Some entry) x map key o t =
    let same : key_cmp x.0 key ≡ key_cmp at key = key_total.congr x.0 at key o in
    split3 (key_cmp at key)
    (λ e. let l : key_cmp x.0 key ≡ Less = same ∙ e in rw (e, l) refl)
    (λ e. rw e refl)
    (λ e. let l : key_cmp x.0 key ≡ Greater = same ∙ e in rw (e, l) refl)

greater_case : (at : Key) (entry : Option Entry) (x : Key × Entry) (map : Map) (key : Key) → key_cmp x.0 at ≡ Greater → ascends key_cmp (Some x.0) map ≡ true
    → at_key (present (at, entry) ++ (x ∷ map)) key ≡ (if is_eq (key_cmp at key) then entry else at_key (x ∷ map) key)
greater_case at None x map key o t =
    split3 (key_cmp at key)
    (λ e. rw e refl)
    (λ e. let lower : key_cmp key x.0 ≡ Less = sym (key_total.congr at key x.0 e) ∙ key_total.antisymm at x.0 ∙ ap ordering_reverse o in
    let later : key_cmp x.0 key ≡ Greater = key_total.antisymm x.0 key ∙ ap ordering_reverse lower in
    rw (e, later) (none_above key x.0 map lower t))
    (λ e. rw e refl)
greater_case at (Some entry) x map key o t = refl

-- what a key has after a change
pub found_after : (change : Change) (map : Map) (key : Key) → IsMap map → at_key (after_change change map) key ≡ (if is_eq (key_cmp change.0 key) then change.1 else at_key map key)
found_after (at, None) [] key up = split3 (key_cmp at key) (λ e. rw e refl) (λ e. rw e refl) (λ e. rw e refl)
found_after (at, Some entry) [] key up = refl
found_after (at, entry) (x ∷ map) key up =
    let t = (head_tail None x map up).1 in
    split3 (key_cmp x.0 at)
    (λ o. let ih = found_after (at, entry) map key (ascends_any x.0 map t) in
    split3 (key_cmp x.0 key)
    (λ e. rw (o, e) ih)
    (λ e. let later : key_cmp at key ≡ Greater = key_total.antisymm at key ∙ ap ordering_reverse (sym (key_total.congr x.0 key at e) ∙ o) in rw (o, e, later) refl)
    (λ e. rw (o, e) ih))
    (λ o. rw o (equal_case at entry x map key o t))
    (λ o. rw o (greater_case at entry x map key o t))

-- what the changes say of a key, else what the map had
abbrev pub settled : Option (Option Entry) → Option Entry → Option Entry
settled None old = old
settled (Some new) old = new

-- what a key has after changes on distinct keys
found_in_all : (changes : List Change) (map : Map) (key : Key) → ascends key_cmp None changes ≡ true → IsMap map → at_key (after_changes changes map) key ≡ settled (at_key changes key) (at_key map key)
found_in_all [] map key asc up = refl
found_in_all (c ∷ cs) map key asc up =
    let t = (head_tail None c cs asc).1 in
    let ih = found_in_all cs (after_change c map) key (ascends_any c.0 cs t) (IsMap-after_change c map up) in
    let one = found_after c map key up in
    split3 (key_cmp c.0 key)
    (λ e. rw e (ih ∙ ap (settled (at_key cs key)) (one ∙ rw e refl)))
    (λ e. let none = none_past key c.0 cs e t in rw e (ih ∙ rw none (one ∙ rw e refl)))
    (λ e. rw e (ih ∙ ap (settled (at_key cs key)) (one ∙ rw e refl)))

-- the entry of a key after changes on distinct keys
pub found_after_all : (changes : List Change) (map : Map) (key : Key) → ascends key_cmp None changes ≡ true → IsMap map
    → entry_of (after_changes changes map) key ≡ settled (at_key changes key) (entry_of map key)
found_after_all changes map key asc up =
    entry_is (after_changes changes map) key ∙ found_in_all changes map key asc up ∙ ap (settled (at_key changes key)) (sym (entry_is map key))
