-- The text of a moment is ASCII.
use Rattle.std.proofs.Common.{ℕ, ◌+◌, ◌/◌, ◌%◌, ◌<◌, List, [], ◌∷◌, arith}
use Rattle.std.specs.Str.{IsAscii}
use Rattle.std.proofs.lemmas.Str.Ascii.{IsAscii-nil, IsAscii-cons}
use Rattle.cat_commit.specs.Instants.{digit, two, fields_text, instant_text}

record Ascii (bytes : List ℕ) : Type 0 where
  holds : IsAscii bytes

mark : (b : ℕ) {rest : List ℕ} → b < 128 → Ascii rest → Ascii (b ∷ rest)
mark b {rest} small h = record { holds = IsAscii-cons b rest small h.holds }

is_small : (x : ℕ) → 48 + x % 10 < 128
is_small x = omega arith

one : (n unit : ℕ) {rest : List ℕ} → Ascii rest → Ascii (digit n unit ∷ rest)
one n unit h = mark (digit n unit) (is_small (n / unit)) h

pair : (n : ℕ) {rest : List ℕ} → Ascii rest → Ascii (two n rest)
pair n h = one n 10 (one n 1 h)

fields_ascii : (year month day hour minute second micros : ℕ) → Ascii (fields_text year month day hour minute second micros)
fields_ascii year month day hour minute second micros =
    let z : Ascii (90 ∷ []) = mark 90 (omega arith) (record { holds = IsAscii-nil }) in
    let fraction = one micros 100000 (one micros 10000 (one micros 1000 (one micros 100 (pair micros z)))) in
    let time = pair hour (mark 58 (omega arith) (pair minute (mark 58 (omega arith) (pair second (mark 46 (omega arith) fraction))))) in
    one year 1000 (one year 100 (pair year (mark 45 (omega arith) (pair month (mark 45 (omega arith) (pair day (mark 84 (omega arith) time)))))))

pub text_ascii : (micros : ℕ) → IsAscii (instant_text micros)
unfolding instant_text
text_ascii micros = (fields_ascii _ _ _ _ _ _ _).holds
