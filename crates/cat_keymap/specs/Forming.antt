-- What changes break of a map's form.
use Rattle.std.specs.Prelude.{Option, Some, None, Bool, true, false, ◌&&◌, ◌||◌, is_none, not}
use Rattle.cat_names.specs.Fields.{Key}
use Rattle.cat_model.specs.declared.entry.Entry.{Entry}
use Rattle.cat_model.specs.Maps.{Change, Map}
use Rattle.cat_model.specs.Namespaces.{has_child, is_namespace, outside_fault}
use Rattle.cat_keymap.specs.declared.key_map.ParentState.{ParentState}
use Rattle.cat_keymap.specs.declared.key_map.ParentState.TheVariants as state

-- a key with this at its parent may be put
abbrev pub is_home : ParentState → Bool
is_home state.Root = true
is_home state.Absent = false
is_home state.Other = false
is_home state.Namespace = true

-- a key that was put has its parent
abbrev pub has_parent : Map → Key → Option Entry → Bool
has_parent map key None = true
has_parent map key (Some entry) = is_none (outside_fault map key)

-- a change breaks nothing of the map after it: its key has its parent, where it was put, and none is left below it, where it isn't a namespace
abbrev pub keeps_form : Map → Change → Bool
keeps_form map change = has_parent map change.0 change.1 && (is_namespace change.1 || not (has_child map change.0))
