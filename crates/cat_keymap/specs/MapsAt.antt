-- The maps at commits, the newest first.
use Rattle.std.specs.Prelude.{◌≡◌, refl, List, [], ◌∷◌, Option, Some, None, if◌then◌else◌}
use Rattle.cat_names.specs.declared.hash.Hash.{Hash}
use Rattle.cat_tables.specs.LookUps.{value_is_only}
use Rattle.cat_tables.specs.Tables.{value_of}
use Rattle.cat_model.specs.Maps.{Map}
use Rattle.cat_model.specs.Same.{same_hash}

-- the map of a hash
abbrev pub map_at : List (Hash × Map) → Hash → Option Map
map_at [] hash = None
map_at (x ∷ maps) hash = if same_hash x.0 hash then Some x.1 else map_at maps hash

-- the look-up of any values under hashes
pub map_is : (maps : List (Hash × Map)) (hash : Hash) → map_at maps hash ≡ value_of maps hash
map_is maps hash = value_is_only map_at (λ h. refl) (λ x older h. refl) maps hash
