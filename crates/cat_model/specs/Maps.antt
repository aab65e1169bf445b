-- What the keys of a catalogue stand for: pairs of a key and its entry, keys ascending.
use Rattle.std.specs.Prelude.{◌≡◌, List, [], ◌∷◌, ◌++◌, Option, Some, None, true, if◌then◌else◌}
use Rattle.std.specs.declared.cmp.Ordering.{Ordering}
use Rattle.std.specs.declared.cmp.Ordering.TheVariants.{Less, Equal, Greater}
use Rattle.std.specs.Ordering.{is_eq}
use Rattle.cat_codes.specs.Code.{ascends}
use Rattle.cat_names.specs.Fields.{Key, key_cmp}
use Rattle.cat_model.specs.declared.entry.Entry.{Entry}

-- keys and their entries, keys ascending
abbrev pub Map : Type 0
Map = List (Key × Entry)

-- a key and its new entry, or none for a key that is deleted
abbrev pub Change : Type 0
Change = Key × Option Entry

-- keys ascend, each once
abbrev pub IsMap : Map → Type 0
IsMap map = ascends key_cmp None map ≡ true

-- the entry of a key
abbrev pub entry_of : Map → Key → Option Entry
entry_of [] key = None
entry_of (x ∷ map) key = if is_eq (key_cmp x.0 key) then Some x.1 else entry_of map key

-- the pair that a change leaves, or none
abbrev pub present : Change → Map
present (key, None) = []
present (key, Some entry) = (key, entry) ∷ []

-- the change where the map goes on with x, by the order of its key and the change's
abbrev pub placed : Ordering → Change → Key × Entry → Map → Map → Map
placed Less change x map changed = x ∷ changed
placed Equal change x map changed = present change ++ map
placed Greater change x map changed = present change ++ x ∷ map

-- the map after a change
abbrev pub after_change : Change → Map → Map
after_change change [] = present change
after_change change (x ∷ map) = placed (key_cmp x.0 change.0) change x map (after_change change map)

-- the map after changes, from the first on
abbrev pub after_changes : List Change → Map → Map
after_changes [] map = map
after_changes (change ∷ changes) map = after_changes changes (after_change change map)
