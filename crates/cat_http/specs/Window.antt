-- The part of a buffer's bytes that a request is read into.
use Rattle.std.specs.Prelude.{ℕ, List, drop}

abbrev pub window : List ℕ → ℕ → List ℕ
window bytes base = drop base bytes
