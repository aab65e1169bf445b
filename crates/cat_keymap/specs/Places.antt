-- What stands below a key in a map, and what above.
use Rattle.std.specs.Prelude.{[], ◌∷◌, Option, Some, None, if◌then◌else◌}
use Rattle.std.specs.Ordering.{is_eq}
use Rattle.std.specs.declared.cmp.Ordering.{Ordering}
use Rattle.std.specs.declared.cmp.Ordering.TheVariants.{Less, Equal, Greater}
use Rattle.cat_names.specs.Fields.{Key, key_cmp}
use Rattle.cat_model.specs.declared.entry.Entry.{Entry}
use Rattle.cat_model.specs.Maps.{Map}

abbrev pub below_by : Ordering → Key × Entry → Map → Map
below_by Less x rest = x ∷ rest
below_by Equal x rest = []
below_by Greater x rest = []

-- the pairs below the key
abbrev pub below : Map → Key → Map
below [] key = []
below (x ∷ map) key = below_by (key_cmp x.0 key) x (below map key)

abbrev pub above_by : Ordering → Key × Entry → Map → Map → Map
above_by Less x map rest = rest
above_by Equal x map rest = map
above_by Greater x map rest = x ∷ map

-- the pairs above the key
abbrev pub above : Map → Key → Map
above [] key = []
above (x ∷ map) key = above_by (key_cmp x.0 key) x map (above map key)

-- the entry of the first pair, if it is the key's
abbrev pub entry_here : Map → Key → Option Entry
entry_here [] key = None
entry_here (x ∷ map) key = if is_eq (key_cmp x.0 key) then Some x.1 else None

-- what follows the key's pair, if that is the first one
abbrev pub past : Map → Key → Map
past [] key = []
past (x ∷ map) key = if is_eq (key_cmp x.0 key) then map else x ∷ map
