-- Walks over maps, a block at a time.
use Rattle.std.specs.Prelude.{ℕ, ◌<◌, ◌≤◌, List, length}

-- a block of the walk is empty only at the end of the map
pub record IsWalk {E : Type 0} (map block : List E) (next : ℕ) : Type 0 where
  pub within : next ≤ length map
  pub some : next < length map → 0 < length block
