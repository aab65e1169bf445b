-- What was read ahead of a disk.
use Rattle.std.specs.Prelude.{◌≡◌, ℕ, List, take, drop, length, Option, IfSome, ◌≤◌}

-- the first `len` of these bytes are those that stand from a place on, where any are told
pub record IsAhead (at len : ℕ) (bytes : List ℕ) (told : Option (List ℕ)) : Type 0 where
  pub within : len ≤ length bytes
  pub read : IfSome told (λ all. take len bytes ≡ take len (drop at all))
