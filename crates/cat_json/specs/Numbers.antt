-- Numbers as JSON: integers that serde_json holds as such, so `1.0`, `1e2` and `-0` are none.
use Rattle.std.specs.Prelude.{◌≡◌, ℕ, ◌^◌, ℤ, pos, negsuc, nat_lt, Option, Some, None, false, if◌then◌else◌, refl}
use Rattle.serde_json.specs.Data.{Data, number, unsigned}
use Rattle.serde_json.specs.Find.{as_number, as_i64, as_u64, of_integer}
use Rattle.serde_json.specs.Written.{has_float}
use Rattle.cat_json.specs.Reading.{◌>>=◌}

-- an integer from 0 to 2^64 - 1
abbrev pub natural : Data → Option ℕ
natural d = as_number d >>= as_u64

abbrev pub fits_u32 : ℕ → Option ℕ
fits_u32 n = if nat_lt n (2 ^ 32) then Some n else None

-- an integer from 0 to 2^32 - 1
abbrev pub small_natural : Data → Option ℕ
small_natural d = natural d >>= fits_u32

-- an integer from -2^63 to 2^63 - 1
abbrev pub integer : Data → Option ℤ
integer d = as_number d >>= as_i64

abbrev pub fits_i32 : ℤ → Option ℤ
fits_i32 (pos n) = if nat_lt n (2 ^ 31) then Some (pos n) else None
fits_i32 (negsuc n) = if nat_lt n (2 ^ 31) then Some (negsuc n) else None

-- an integer from -2^31 to 2^31 - 1
abbrev pub small_integer : Data → Option ℤ
small_integer d = integer d >>= fits_i32

abbrev pub natural_data : ℕ → Data
natural_data n = number (unsigned n)

abbrev pub integer_data : ℤ → Data
integer_data z = number (of_integer z)

pub no_float_integer : (z : ℤ) → has_float (integer_data z) ≡ false
no_float_integer (pos n) = refl
no_float_integer (negsuc n) = refl
