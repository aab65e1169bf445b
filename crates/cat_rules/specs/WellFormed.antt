-- Changes that break no rule of namespaces keep a map well-formed.
use Rattle.std.proofs.Common.{◌≡◌, ℕ, List, [], ◌∷◌, Option, Some, None, Bool, true, false, ◌&&◌, ◌||◌, if◌then◌else◌, refl, sym, ap, subst, ◌∙◌}
use Rattle.std.specs.Prelude.{not}
use Rattle.std.specs.List.{AllByRecursion}
use Rattle.std.specs.Option.{option_or}
use Rattle.std.specs.Cmp.Lexicographic.{nat_list_eq_equiv}
use Rattle.std.specs.Str.{bytes_eq}
use Rattle.cat_codes.specs.Code.{ascends}
use Rattle.cat_names.specs.Fields.{Key, key_cmp}
use Rattle.cat_model.specs.declared.conflict.ConflictKind.{ConflictKind}
use Rattle.cat_model.specs.declared.conflict.ConflictKind.TheVariants.{NotANamespace, NamespaceNotEmpty}
use Rattle.cat_model.specs.declared.entry.ContentKind.TheVariants.{Namespace}
use Rattle.cat_model.specs.declared.entry.Entry.{Entry}
use Rattle.cat_model.specs.Keys.{parent, begins_with, is_child}
use Rattle.cat_model.specs.Maps.{Map, Change, IsMap, entry_of, after_changes}
use Rattle.cat_model.specs.Namespaces.{is_namespace, has_child, parent_fault, outside_fault, emptied_fault, namespace_fault, is_well_formed}
use Rattle.cat_model.specs.Same.{same_key, same_type}
use Rattle.cat_keymap.specs.FormedLaws.{Homed, homed, well_formed}
use Rattle.cat_keymap.specs.KeyOrder.{split3, both_true}
use Rattle.cat_keymap.specs.MapLaws.{key_same, at_key, settled, found_after_all, IsMap-after_changes}
use Rattle.cat_keymap.specs.declared.key_map.ParentState.TheVariants as state
use Rattle.cat_keymap.specs.Parents.{entry_state, parent_state}
use Rattle.cat_rules.specs.Rules.{state_fault}

-- ---- what the parent's state tells of a key

fault_is : (namespace : Bool) → state_fault (if namespace then state.Namespace else state.Other) ≡ (if namespace then None else Some NotANamespace)
fault_is true = refl
fault_is false = refl

entry_fault_is : (entry : Option Entry) → state_fault (entry_state entry) ≡ parent_fault entry
entry_fault_is None = refl
entry_fault_is (Some entry) = fault_is (same_type entry.kind Namespace)

pub outside_is : (map : Map) (key : Key) → state_fault (parent_state map key) ≡ outside_fault map key
outside_is map [] = refl
outside_is map (element ∷ []) = refl
outside_is map (element ∷ next ∷ key) = entry_fault_is (entry_of map (parent (element ∷ next ∷ key)))

is_parent : (entry : Option Entry) → parent_fault entry ≡ None → is_namespace entry ≡ true
is_parent None e = absurd cc
is_parent (Some entry) e = by (is_namespace (Some entry)) refl
  where
    by : (b : Bool) → is_namespace (Some entry) ≡ b → is_namespace (Some entry) ≡ true
    by true h = h
    by false h = let fault : parent_fault (Some entry) ≡ Some NotANamespace = ap (λ (b : Bool). if b then None else Some NotANamespace) h in absurd cc

has_parent : (entry : Option Entry) → is_namespace entry ≡ true → parent_fault entry ≡ None
has_parent None e = absurd cc
has_parent (Some entry) e = ap (λ (b : Bool). if b then None else Some NotANamespace) e

-- ---- the parent of a key has a child

itself : (x : List ℕ) → bytes_eq x x ≡ true
itself x = nat_list_eq_equiv.refl x

and_false : (a b : Bool) → b ≡ false → (a && b) ≡ false
and_false true b e = e
and_false false b e = refl

begins_parent : (x : List ℕ) (key : Key) → begins_with (x ∷ key) (parent (x ∷ key)) ≡ true
begins_parent x [] = refl
begins_parent x (y ∷ key) = both_true _ _ (itself x) (begins_parent y key)

not_parent : (x : List ℕ) (key : Key) → same_key (x ∷ key) (parent (x ∷ key)) ≡ false
not_parent x [] = refl
not_parent x (y ∷ key) = and_false (bytes_eq x x) (same_key (y ∷ key) (parent (y ∷ key))) (not_parent y key)

child_of_parent : (x : List ℕ) (key : Key) → is_child (x ∷ key) (parent (x ∷ key)) ≡ true
child_of_parent x key = both_true _ _ (begins_parent x key) (ap not (not_parent x key))

first_or : (a b : Bool) → a ≡ true → (a || b) ≡ true
first_or true b e = refl
first_or false b e = absurd cc

later_or : (a b : Bool) → b ≡ true → (a || b) ≡ true
later_or true b e = refl
later_or false b e = e

found_child : (map : Map) (above key : Key) (entry : Entry) → entry_of map key ≡ Some entry → is_child key above ≡ true → has_child map above ≡ true
found_child [] above key entry e child = absurd cc
found_child (x ∷ map) above key entry e child = split3 (key_cmp x.0 key)
    (λ o. later_or (is_child x.0 above) (has_child map above) (found_child map above key entry (rw o at e) child))
    (λ o. first_or (is_child x.0 above) (has_child map above) (subst (λ (k : Key). is_child k above ≡ true) (sym (key_same x.0 key o)) child))
    (λ o. later_or (is_child x.0 above) (has_child map above) (found_child map above key entry (rw o at e) child))

-- ---- rules that hold

pub or_none : (a b : Option ConflictKind) → option_or a b ≡ None → (a ≡ None) × (b ≡ None)
or_none None b e = (refl, e)
or_none (Some kind) b e = absurd cc

abbrev pub Keeps : Map → Map → Change → Type 0
Keeps before after change = namespace_fault before after change ≡ None

emptied_none : (before after : Map) (key : Key) (to : Option Entry) → namespace_fault before after (key, to) ≡ None → emptied_fault before after (key, to) ≡ None
emptied_none before after key None e = e
emptied_none before after key (Some entry) e = (or_none (outside_fault after key) (emptied_fault before after (key, Some entry)) e).1

stays_namespace : (a b c : Bool) → (if a && not b && c then Some NamespaceNotEmpty else None) ≡ None → a ≡ true → c ≡ true → b ≡ true
stays_namespace true true true e f g = refl
stays_namespace true false true e f g = absurd cc
stays_namespace false b c e f g = absurd cc
stays_namespace a b false e f g = absurd cc

still_parent : (before after : Map) (key : Key) (to : Option Entry) → Keeps before after (key, to) → is_namespace (entry_of before key) ≡ true → has_child after key ≡ true → is_namespace to ≡ true
unfolding emptied_fault
still_parent before after key to e f g = stays_namespace (is_namespace (entry_of before key)) (is_namespace to) (has_child after key) (emptied_none before after key to e) f g

-- the rule of the change of a key
rule_at : (before after : Map) (cs : List Change) (key : Key) (to : Option Entry) → AllByRecursion (Keeps before after) cs → at_key cs key ≡ Some to → Keeps before after (key, to)
rule_at before after [] key to all e = absurd cc
rule_at before after (c ∷ cs) key to all e = split3 (key_cmp c.0 key)
    (λ o. rule_at before after cs key to all.1 (rw o at e))
    (λ o. let here : Some c.1 ≡ Some to = rw o at e in
    let value : c.1 ≡ to = cc in
    let k : c.0 ≡ key = key_same c.0 key o in
    subst (Keeps before after) (λ i. (k i, value i)) all.0)
    (λ o. rule_at before after cs key to all.1 (rw o at e))

-- ---- after changes

parent_after : (head after : Map) (cs : List Change) (above : Key) (to : Option (Option Entry)) → at_key cs above ≡ to → AllByRecursion (Keeps head after) cs
    → has_child after above ≡ true → is_namespace (entry_of head above) ≡ true → is_namespace (settled to (entry_of head above)) ≡ true
parent_after head after cs above None e all child home = home
parent_after head after cs above (Some to) e all child home = still_parent head after above to (rule_at head after cs above to all e) home child

key_after : (head : Map) (cs : List Change) (key : Key) (entry : Entry) (to : Option (Option Entry)) → ascends key_cmp None cs ≡ true → IsMap head
    → AllByRecursion (Keeps head (after_changes cs head)) cs → Homed head → entry_of (after_changes cs head) key ≡ Some entry
    → at_key cs key ≡ to → settled to (entry_of head key) ≡ Some entry → outside_fault (after_changes cs head) key ≡ None
key_after head cs [] entry to up map all home found e s = refl
key_after head cs (x ∷ []) entry to up map all home found e s = refl
key_after head cs (x ∷ y ∷ key) entry None up map all home found e s =
    let after = after_changes cs head in
    let above = parent (x ∷ y ∷ key) in
    let child = found_child after above (x ∷ y ∷ key) entry found (child_of_parent x (y ∷ key)) in
    let before = is_parent (entry_of head above) (home (x ∷ y ∷ key) entry s) in
    let later = parent_after head after cs above (at_key cs above) refl all child before in
    has_parent (entry_of after above) (ap is_namespace (found_after_all cs head above up map) ∙ later)
key_after head cs (x ∷ y ∷ key) entry (Some None) up map all home found e s = absurd cc
key_after head cs (x ∷ y ∷ key) entry (Some (Some put)) up map all home found e s =
    let after = after_changes cs head in
    (or_none (outside_fault after (x ∷ y ∷ key)) (emptied_fault head after (x ∷ y ∷ key, Some put)) (rule_at head after cs (x ∷ y ∷ key) (Some put) all e)).0

-- changes that keep the rules keep a map well-formed
pub stays_well_formed : (head : Map) (cs : List Change) → ascends key_cmp None cs ≡ true → IsMap head → AllByRecursion (Keeps head (after_changes cs head)) cs
    → is_well_formed head ≡ true → is_well_formed (after_changes cs head) ≡ true
stays_well_formed head cs up map all well =
    well_formed (after_changes cs head) (IsMap-after_changes cs head map)
    (λ key entry found. key_after head cs key entry (at_key cs key) up map all (homed head well) found refl (sym (found_after_all cs head key up map) ∙ found))
