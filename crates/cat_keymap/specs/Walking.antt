-- The keys whose entries differ, by a walk over two maps.
use Rattle.std.specs.Prelude.{List, [], ◌∷◌, ◌++◌, Option, Some, is_none, if◌then◌else◌}
use Rattle.cat_names.specs.Fields.{Key}
use Rattle.cat_model.specs.declared.entry.Entry.{Entry}
use Rattle.cat_model.specs.Changed.{keys_of}
use Rattle.cat_model.specs.Differs.{differs}
use Rattle.cat_model.specs.Maps.{Map, entry_of}
use Rattle.cat_keymap.specs.Places.{below, above}

-- the key, unless the other map has the same entry there
abbrev pub unless_same : Key × Entry → Option Entry → List Key
unless_same x other = if is_none (differs (Some x.1) other) then [] else x.0 ∷ []

-- those of b below the first of a, that one if its entry differs, and so on above it
abbrev pub walk : Map → Map → List Key
walk [] b = keys_of b
walk (x ∷ a) b = keys_of (below b x.0) ++ (unless_same x (entry_of b x.0) ++ walk a (above b x.0))
