-- Numbers in words.
use Rattle.std.specs.Prelude.{ℕ, List, Option, Some, None, option_and_then, if◌then◌else◌, ◌&&◌, nat_le, nat_lt, length}
use Rattle.std.specs.Str.{all_ascii_digits}
use Rattle.std.specs.Str.Parse.{digits_value}

-- a number of 1 to 20 digits and nothing else, at most `most`
abbrev pub number_of : ℕ → List ℕ → Option ℕ
number_of most text =
    if nat_lt 0 (length text) && nat_le (length text) 20 && all_ascii_digits text && nat_le (digits_value 10 text) most then Some (digits_value 10 text)
    else None

-- the same, and at least `least`
abbrev pub number_between : ℕ → ℕ → List ℕ → Option ℕ
number_between least most text = option_and_then (λ number. if nat_le least number then Some number else None) (number_of most text)
