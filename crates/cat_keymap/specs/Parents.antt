-- What a map has at the parent of a key.
use Rattle.std.specs.Prelude.{[], ◌∷◌, Option, Some, None, if◌then◌else◌}
use Rattle.cat_names.specs.Fields.{Key}
use Rattle.cat_model.specs.declared.entry.ContentKind.{ContentKind}
use Rattle.cat_model.specs.declared.entry.ContentKind.TheVariants.{Namespace}
use Rattle.cat_model.specs.declared.entry.Entry.{Entry}
use Rattle.cat_model.specs.Keys.{parent}
use Rattle.cat_model.specs.Maps.{Map, entry_of}
use Rattle.cat_model.specs.Same.{same_type}
use Rattle.cat_keymap.specs.declared.key_map.ParentState.{ParentState}
use Rattle.cat_keymap.specs.declared.key_map.ParentState.TheVariants as state

-- a namespace, or another content
abbrev pub kind_state : ContentKind → ParentState
kind_state kind = if same_type kind Namespace then state.Namespace else state.Other

-- what an entry, or none, is as a parent
abbrev pub entry_state : Option Entry → ParentState
entry_state None = state.Absent
entry_state (Some entry) = kind_state entry.kind

-- what the map has at the parent of a key; a key of one element needs none
abbrev pub parent_state : Map → Key → ParentState
parent_state map [] = state.Root
parent_state map (element ∷ []) = state.Root
parent_state map (element ∷ next ∷ key) = entry_state (entry_of map (parent (element ∷ next ∷ key)))
