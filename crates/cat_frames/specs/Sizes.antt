-- Numbers of bytes, as far as they are counted.
use Rattle.std.specs.Prelude.{ℕ, List, length, min}
use Rattle.std.specs.List.{flat_map}

-- a count stands still at the end of 64 bits
abbrev pub capped : ℕ → ℕ
capped n = min n 18446744073709551615

-- how many bytes spell values, one after another
abbrev pub size_of : {A : Type 0} → (A → List ℕ) → List A → ℕ
size_of spell xs = capped (length (flat_map spell xs))
