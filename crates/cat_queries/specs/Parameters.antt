-- The parameters of a query, which is what follows the first `?` of a target, after the URL Standard,
-- section 5. Every query is a list of parameters.
use Rattle.std.specs.Prelude.{ℕ, List, Bool, Option, None, Some, ◌&&◌, ◌==◌, nat_lt, if◌then◌else◌, min, length, map, filter, slice_get, bytes_eq}
use Rattle.std.specs.Str.{all_ascii_digits}
use Rattle.std.specs.Str.Lossy.{utf8_lossy}
use Rattle.std.specs.Str.Parse.{digits_value}
use Rattle.form_urlencoded.specs.Form.{raw_pairs, decode}

-- the text that an encoded name or value stands for
abbrev pub text_of : List ℕ → List ℕ
text_of bytes = utf8_lossy (decode bytes)

-- the values of the encoded pairs of a name, in order
abbrev pub values_in : List ℕ → List (List ℕ × List ℕ) → List (List ℕ)
values_in name pairs = map (λ p. text_of p.1) (filter (λ p. bytes_eq (text_of p.0) name) pairs)

-- the value of every parameter of a name, in order
abbrev pub all_values : List ℕ → List ℕ → List (List ℕ)
all_values name query = values_in name (raw_pairs query)

-- the value of the first parameter of a name, none where there is none
abbrev pub first_value : List ℕ → List ℕ → Option (List ℕ)
first_value name query = slice_get (all_values name query) 0

-- one digit or more, and nothing else
abbrev pub is_number : List ℕ → Bool
is_number text = nat_lt 0 (length text) && all_ascii_digits text

-- how many records a page has where so many are asked for: 0 leaves it to the server
abbrev pub limit_of : ℕ → ℕ
limit_of asked = if asked == 0 then 200 else min asked 1000

-- how many records a page has by its parameter, none where that isn't a number
abbrev pub page_limit : Option (List ℕ) → Option ℕ
page_limit None = Some 200
page_limit (Some text) = if is_number text then Some (limit_of (digits_value 10 text)) else None
