-- Changes that break nothing of a map's form, and maps that stay well-formed.
use Rattle.std.proofs.Common.{◌≡◌, ◌⊎◌, inl, inr, ℕ, zero, suc, ◌<◌, ◌≤◌, List, [], ◌∷◌, length, get_or, drop, Option, Some, None, Bool, true, false, ◌&&◌, ◌||◌, if◌then◌else◌, refl, sym, ap, subst, ◌∙◌, arith}
use Rattle.std.specs.Prelude.{not, is_none}
use Rattle.std.specs.List.{list_all}
use Rattle.std.specs.Cmp.{tied_itself}
use Rattle.std.specs.Cmp.Lexicographic.{nat_list_eq_equiv, bytes_decides}
use Rattle.std.specs.Str.{bytes_eq}
use Rattle.std.specs.declared.cmp.Ordering.TheVariants.{Less, Equal}
use Rattle.cat_codes.specs.Code.{ascends}
use Rattle.cat_names.specs.Fields.{Key, IsKey, key_cmp, is_count}
use Rattle.cat_model.specs.declared.conflict.ConflictKind.TheVariants.{NotANamespace}
use Rattle.cat_model.specs.declared.entry.ContentKind.TheVariants.{Namespace}
use Rattle.cat_model.specs.declared.entry.Entry.{Entry}
use Rattle.cat_model.specs.Keys.{parent, begins_with, is_child}
use Rattle.cat_model.specs.Maps.{Map, Change, IsMap, entry_of, after_changes}
use Rattle.cat_model.specs.Namespaces.{is_namespace, has_child, parent_fault, outside_fault, is_well_formed}
use Rattle.cat_model.specs.Same.{same_key, same_type}
use Rattle.cat_keymap.specs.FormedLaws.{Homed, homed, homed_among, is_none_is, well_formed}
use Rattle.cat_keymap.specs.Forming.{has_parent, is_home, keeps_form}
use Rattle.cat_keymap.specs.KeyOrder.{key_total, split3, both_true, and_true, head_tail, all_above}
use Rattle.cat_keymap.specs.MapLaws.{key_same, at_key, settled, found_after_all, IsMap-after_changes}
use Rattle.cat_keymap.specs.Parents.{entry_state, parent_state}
use Rattle.cat_keymap.specs.declared.key_map.ParentState.TheVariants as state

split : {P : Type 0} (b : Bool) → (b ≡ true → P) → (b ≡ false → P) → P
split true f g = f refl
split false f g = g refl

first_or : (a b : Bool) → a ≡ true → (a || b) ≡ true
first_or true b e = refl
first_or false b e = absurd cc

later_or : (a b : Bool) → b ≡ true → (a || b) ≡ true
later_or true b e = refl
later_or false b e = e

-- ---- what stands at a key's parent

kind_home : (namespace : Bool) → is_home (if namespace then state.Namespace else state.Other) ≡ is_none (if namespace then None else Some NotANamespace)
kind_home true = refl
kind_home false = refl

entry_home : (entry : Option Entry) → is_home (entry_state entry) ≡ is_none (parent_fault entry)
entry_home None = refl
entry_home (Some entry) = kind_home (same_type entry.kind Namespace)

pub home_is : (map : Map) (key : Key) → is_home (parent_state map key) ≡ is_none (outside_fault map key)
home_is map [] = refl
home_is map (element ∷ []) = refl
home_is map (element ∷ next ∷ key) = entry_home (entry_of map (parent (element ∷ next ∷ key)))

-- a parent is there, as a namespace
abbrev IsThere : Option Entry → Type 0
IsThere found = (entry : Entry) × (found ≡ Some entry) × (is_namespace found ≡ true)

parent_there : (found : Option Entry) → parent_fault found ≡ None → IsThere found
parent_there None e = absurd cc
parent_there (Some entry) e = by (is_namespace (Some entry)) refl
  where
    by : (b : Bool) → is_namespace (Some entry) ≡ b → IsThere (Some entry)
    by true h = (entry, refl, h)
    by false h = let fault : parent_fault (Some entry) ≡ Some NotANamespace = ap (λ (c : Bool). if c then None else Some NotANamespace) h in absurd cc

no_fault : (found : Option Entry) → is_namespace found ≡ true → parent_fault found ≡ None
no_fault None e = absurd cc
no_fault (Some entry) e = ap (λ (c : Bool). if c then None else Some NotANamespace) e

-- ---- keys within one another

itself : (x : List ℕ) → bytes_eq x x ≡ true
itself x = nat_list_eq_equiv.refl x

and_false : (a b : Bool) → b ≡ false → (a && b) ≡ false
and_false true b e = e
and_false false b e = refl

begins_parent : (x : List ℕ) (key : Key) → begins_with (x ∷ key) (parent (x ∷ key)) ≡ true
begins_parent x [] = refl
begins_parent x (y ∷ key) = both_true _ _ (itself x) (begins_parent y key)

not_parent : (x : List ℕ) (key : Key) → same_key (x ∷ key) (parent (x ∷ key)) ≡ false
not_parent x [] = refl
not_parent x (y ∷ key) = and_false (bytes_eq x x) (same_key (y ∷ key) (parent (y ∷ key))) (not_parent y key)

child_of_parent : (x : List ℕ) (key : Key) → is_child (x ∷ key) (parent (x ∷ key)) ≡ true
child_of_parent x key = both_true _ _ (begins_parent x key) (ap not (not_parent x key))

found_child : (map : Map) (above key : Key) (entry : Entry) → entry_of map key ≡ Some entry → is_child key above ≡ true → has_child map above ≡ true
found_child [] above key entry e child = absurd cc
found_child (x ∷ map) above key entry e child = split3 (key_cmp x.0 key)
    (λ o. later_or (is_child x.0 above) (has_child map above) (found_child map above key entry (rw o at e) child))
    (λ o. first_or (is_child x.0 above) (has_child map above) (subst (λ (k : Key). is_child k above ≡ true) (sym (key_same x.0 key o)) child))
    (λ o. later_or (is_child x.0 above) (has_child map above) (found_child map above key entry (rw o at e) child))

-- of two that begin with one element
apart : (a b c : Bool) → ((a && b) && not (a && c)) ≡ true → (a ≡ true) × ((b && not c) ≡ true)
apart true b c e = (refl, e)
apart false b c e = absurd cc

joined : (a b c : Bool) → a ≡ true → (b && not c) ≡ true → ((a && b) && not (a && c)) ≡ true
joined true b c h e = e
joined false b c h e = absurd cc

below : (x a : List ℕ) (key above : Key) → is_child (x ∷ key) (a ∷ above) ≡ true → (bytes_eq x a ≡ true) × (is_child key above ≡ true)
below x a key above e = apart (bytes_eq x a) (begins_with key above) (same_key key above) e

none_below : (above : Key) → is_child [] above ≡ true → ⊥
none_below [] e = absurd cc
none_below (a ∷ above) e = absurd cc

-- the parent of a key below another is that one, or below it
parent_below : (key above : Key) → is_child key above ≡ true → (parent key ≡ above) ⊎ (is_child (parent key) above ≡ true)
parent_below [] above e = absurd (none_below above e)
parent_below (x ∷ []) [] e = inl refl
parent_below (x ∷ []) (a ∷ above) e = absurd (none_below above (below x a [] above e).1)
parent_below (x ∷ y ∷ key) [] e = inr refl
parent_below (x ∷ y ∷ key) (a ∷ above) e =
    let parts = below x a (y ∷ key) above e in
    by (parent_below (y ∷ key) above parts.1) parts.0
  where
    by : (parent (y ∷ key) ≡ above) ⊎ (is_child (parent (y ∷ key)) above ≡ true) → bytes_eq x a ≡ true → (x ∷ parent (y ∷ key) ≡ a ∷ above) ⊎ (is_child (x ∷ parent (y ∷ key)) (a ∷ above) ≡ true)
    by (inl same) first = let head = (bytes_decides x a).0 first in inl (λ i. head i ∷ same i)
    by (inr child) first = inr (joined (bytes_eq x a) (begins_with (parent (y ∷ key)) above) (same_key (parent (y ∷ key)) above) first child)

shorter : (x : List ℕ) (key : Key) → suc (length (parent (x ∷ key))) ≡ length (x ∷ key)
shorter x [] = refl
shorter x (y ∷ key) = ap suc (shorter y key)

-- ---- changes that break nothing

-- what a key's change keeps
kept_at : (after : Map) (cs : List Change) (key : Key) (to : Option Entry) → list_all (keeps_form after) cs ≡ true → at_key cs key ≡ Some to → keeps_form after (key, to) ≡ true
kept_at after [] key to all e = absurd cc
kept_at after (c ∷ cs) key to all e =
    let t = and_true (keeps_form after c) (list_all (keeps_form after) cs) all in
    split3 (key_cmp c.0 key)
    (λ o. kept_at after cs key to t.1 (rw o at e))
    (λ o. let here : Some c.1 ≡ Some to = rw o at e in
    let value : c.1 ≡ to = cc in
    let k : c.0 ≡ key = key_same c.0 key o in
    subst (λ (d : Change). keeps_form after d ≡ true) (λ i. (k i, value i)) t.0)
    (λ o. kept_at after cs key to t.1 (rw o at e))

still : (a b : Bool) → (a || not b) ≡ true → b ≡ true → a ≡ true
still true b e f = refl
still false true e f = absurd cc
still false false e f = absurd cc

parent_after : (head after : Map) (cs : List Change) (above : Key) (to : Option (Option Entry)) → at_key cs above ≡ to → list_all (keeps_form after) cs ≡ true
    → has_child after above ≡ true → is_namespace (entry_of head above) ≡ true → is_namespace (settled to (entry_of head above)) ≡ true
parent_after head after cs above None e all child home = home
parent_after head after cs above (Some to) e all child home =
    still (is_namespace to) (has_child after above) (and_true (has_parent after above to) (is_namespace to || not (has_child after above)) (kept_at after cs above to all e)).1 child

key_after : (head : Map) (cs : List Change) (key : Key) (entry : Entry) (to : Option (Option Entry)) → ascends key_cmp None cs ≡ true → IsMap head
    → list_all (keeps_form (after_changes cs head)) cs ≡ true → Homed head → entry_of (after_changes cs head) key ≡ Some entry
    → at_key cs key ≡ to → settled to (entry_of head key) ≡ Some entry → outside_fault (after_changes cs head) key ≡ None
key_after head cs [] entry to up map all home found e s = refl
key_after head cs (x ∷ []) entry to up map all home found e s = refl
key_after head cs (x ∷ y ∷ key) entry None up map all home found e s =
    let after = after_changes cs head in
    let above = parent (x ∷ y ∷ key) in
    let child = found_child after above (x ∷ y ∷ key) entry found (child_of_parent x (y ∷ key)) in
    let before = (parent_there (entry_of head above) (home (x ∷ y ∷ key) entry s)).2 in
    let later = parent_after head after cs above (at_key cs above) refl all child before in
    no_fault (entry_of after above) (ap is_namespace (found_after_all cs head above up map) ∙ later)
key_after head cs (x ∷ y ∷ key) entry (Some None) up map all home found e s = absurd cc
key_after head cs (x ∷ y ∷ key) entry (Some (Some put)) up map all home found e s =
    let after = after_changes cs head in
    let kept = kept_at after cs (x ∷ y ∷ key) (Some put) all e in
    is_none_is _ (and_true (is_none (outside_fault after (x ∷ y ∷ key))) (is_namespace (Some put) || not (has_child after (x ∷ y ∷ key))) kept).0

-- a map that was well-formed is so after changes that break nothing
pub stays : (head : Map) (cs : List Change) → ascends key_cmp None cs ≡ true → IsMap head → list_all (keeps_form (after_changes cs head)) cs ≡ true
    → is_well_formed head ≡ true → is_well_formed (after_changes cs head) ≡ true
stays head cs up map all well =
    well_formed (after_changes cs head) (IsMap-after_changes cs head map)
    (λ key entry found. key_after head cs key entry (at_key cs key) up map all (homed head well) found refl (sym (found_after_all cs head key up map) ∙ found))

-- ---- what is well-formed keeps its form at each change

-- above a key that is at home each key but the empty one is a namespace
climbs : (map : Map) → Homed map → (n : ℕ) (key : Key) (a : List ℕ) (above : Key) → length key ≤ n → outside_fault map key ≡ None → is_child key (a ∷ above) ≡ true → is_namespace (entry_of map (a ∷ above)) ≡ true
climbs map home n [] a above le at child = absurd (none_below (a ∷ above) child)
climbs map home n (x ∷ []) a above le at child = absurd (none_below above (below x a [] above child).1)
climbs map home zero (x ∷ y ∷ key) a above le at child = absurd (omega (arith, le))
climbs map home (suc n) (x ∷ y ∷ key) a above le at child =
    let up = parent (x ∷ y ∷ key) in
    let there = parent_there (entry_of map up) at in
    let size = shorter x (y ∷ key) in
    by (parent_below (x ∷ y ∷ key) (a ∷ above) child) there (climbs map home n up a above (omega (arith, le, size)) (home up there.0 there.1))
  where
    by : (parent (x ∷ y ∷ key) ≡ a ∷ above) ⊎ (is_child (parent (x ∷ y ∷ key)) (a ∷ above) ≡ true) → IsThere (entry_of map (parent (x ∷ y ∷ key)))
        → (is_child (parent (x ∷ y ∷ key)) (a ∷ above) ≡ true → is_namespace (entry_of map (a ∷ above)) ≡ true) → is_namespace (entry_of map (a ∷ above)) ≡ true
    by (inl same) there again = subst (λ (k : Key). is_namespace (entry_of map k) ≡ true) same there.2
    by (inr lower) there again = again lower

above_child : (whole map : Map) → Homed whole → (a : List ℕ) (above : Key) → list_all (λ x. is_none (outside_fault whole x.0)) map ≡ true → has_child map (a ∷ above) ≡ true → is_namespace (entry_of whole (a ∷ above)) ≡ true
above_child whole [] home a above all child = absurd cc
above_child whole (x ∷ map) home a above all child =
    let t = and_true (is_none (outside_fault whole x.0)) (list_all (λ x. is_none (outside_fault whole x.0)) map) all in
    split (is_child x.0 (a ∷ above))
    (λ e. climbs whole home (length x.0) x.0 a above (omega arith) (is_none_is _ t.0) e)
    (λ e. above_child whole map home a above t.1 (sym (ap (λ (b : Bool). b || has_child map (a ∷ above)) e) ∙ child))

namespace_above : (map : Map) (key : Key) → IsKey key → is_well_formed map ≡ true → has_child map key ≡ true → is_namespace (entry_of map key) ≡ true
unfolding is_well_formed is_count
namespace_above map [] is well child = let none = is.count in absurd cc
namespace_above map (a ∷ above) is well child = above_child map map (homed_among map map well) a above well child

parent_kept : (map : Map) (key : Key) (to : Option Entry) → Homed map → entry_of map key ≡ to → has_parent map key to ≡ true
parent_kept map key None home e = refl
parent_kept map key (Some entry) home e = ap is_none (home key entry e)

formed_keeps : (map : Map) (key : Key) (to : Option Entry) → IsKey key → entry_of map key ≡ to → is_well_formed map ≡ true → keeps_form map (key, to) ≡ true
formed_keeps map key to is e well =
    both_true _ _ (parent_kept map key to (homed map well) e)
    (split (has_child map key)
    (λ h. first_or (is_namespace to) (not (has_child map key)) (ap is_namespace (sym e) ∙ namespace_above map key is well h))
    (λ h. later_or (is_namespace to) (not (has_child map key)) (ap not h)))

-- each change of a list is found by its key
at_index : (last : Option Key) (cs : List Change) (i : ℕ) (d : Change) → ascends key_cmp last cs ≡ true → i < length cs → at_key cs (get_or cs i d).0 ≡ Some (get_or cs i d).1
at_index last [] i d up lt = absurd (omega (arith, lt))
at_index last (c ∷ cs) zero d up lt = let same : key_cmp c.0 c.0 ≡ Equal = tied_itself key_total c.0 in rw same refl
at_index last (c ∷ cs) (suc i) d up lt =
    let t = head_tail last c cs up in
    let less : key_cmp c.0 (get_or cs i d).0 ≡ Less = all_above c.0 cs i d t.1 (omega (arith, lt)) in
    rw less (at_index (Some c.0) cs i d t.1 (omega (arith, lt)))

-- a change that breaks the form is one of a map that isn't well-formed
pub breaks : (head : Map) (cs : List Change) (i : ℕ) (d : Change) → ascends key_cmp None cs ≡ true → IsMap head → i < length cs → IsKey (get_or cs i d).0
    → keeps_form (after_changes cs head) (get_or cs i d) ≡ false → is_well_formed (after_changes cs head) ≡ false
breaks head cs i d up map lt is broken =
    let after = after_changes cs head in
    let c = get_or cs i d in
    let found : entry_of after c.0 ≡ c.1 = found_after_all cs head c.0 up map ∙ ap (λ (o : Option (Option Entry)). settled o (entry_of head c.0)) (at_index None cs i d up lt) in
    split (is_well_formed after)
    (λ well. let kept : keeps_form after c ≡ true = formed_keeps after c.0 c.1 is found well in absurd cc)
    (λ no. no)

-- ---- as the changes are gone through

past_end : (cs : List Change) (i : ℕ) → length cs ≤ i → drop i cs ≡ []
past_end [] zero le = refl
past_end [] (suc i) le = refl
past_end (c ∷ cs) zero le = absurd (omega (arith, le))
past_end (c ∷ cs) (suc i) le = past_end cs i (omega (arith, le))

-- one that breaks the form is met
pub one_breaks : (head map : Map) (cs : List Change) (i : ℕ) (c : Change) → map ≡ after_changes cs head → ascends key_cmp None cs ≡ true → IsMap head → i < length cs → c ≡ get_or cs i c → IsKey c.0
    → keeps_form map c ≡ false → is_well_formed map ≡ false
one_breaks head map cs i c after up is_map lt is key broken =
    subst (λ (m : Map). is_well_formed m ≡ false) (sym after)
    (breaks head cs i c up is_map lt (subst (λ (d : Change). IsKey d.0) is key) ((λ j. keeps_form (sym after j) (sym is j)) ∙ broken))

-- none does
pub none_breaks : (head map : Map) (cs : List Change) (i : ℕ) → map ≡ after_changes cs head → ascends key_cmp None cs ≡ true → IsMap head → length cs ≤ i → list_all (keeps_form map) (drop i cs) ≡ list_all (keeps_form map) cs
    → is_well_formed head ≡ true → is_well_formed map ≡ true
none_breaks head map cs i after up is_map le kept well =
    let all : list_all (keeps_form map) cs ≡ true = sym kept ∙ ap (list_all (keeps_form map)) (past_end cs i le) in
    subst (λ (m : Map). is_well_formed m ≡ true) (sym after) (stays head cs up is_map (ap (λ (m : Map). list_all (keeps_form m) cs) (sym after) ∙ all) well)
