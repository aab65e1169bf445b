-- The text of civil fields is read as those fields.
use Rattle.std.proofs.Common.{◌≡◌, ℕ, ◌*◌, ◌/◌, ◌%◌, ◌<◌, ◌==◌, nat_lt, min, take_at, drop_at, true, false, List, [], ◌∷◌, ◌++◌, Some, Ok, refl, sym, subst, arith, ℤ, pos, ◌-ℤ◌}
use Rattle.std.proofs.lemmas.Bool.Decides.{nat_tests}
use Rattle.std.specs.Char.{is_ascii_digit}
use Rattle.std.specs.List.{prefix_len}
use Rattle.jiff_core.proofs.CalendarLemmas.{days_in_month_bounds}
use Rattle.jiff_core.specs.Calendar.{IsCivilDate, days_in_month}
use Rattle.jiff_core.specs.Timestamp.{IsTimestampNanos, nanos_of_seconds}
use Rattle.jiff_core.specs.declared.error.Bound.TheVariants as Bounds
use Rattle.jiff_core.specs.declared.error.Syntax.TheVariants as Syntax
use Rattle.jiff_fmt.proofs.RoundTrip.{annotations-empty, field-pad2, offset-zulu, year-text}
use Rattle.jiff_fmt.proofs.TemporalLemmas.{date_spec-ok, instant-ok}
use Rattle.jiff_fmt.proofs.TextLemmas.{places-read}
use Rattle.jiff_fmt.specs.Reader.{fraction_value, nanoseconds, temporal_fraction}
use Rattle.jiff_fmt.specs.Temporal.{date_spec, parse_timestamp, parts_nanos, temporal_datetime, time_spec}
use Rattle.jiff_fmt.specs.Text.{pad2, pad4, places}
use Rattle.cat_commit.specs.Instants.{digit, two, fields_text}

-- ---- the digits are those that the reader's own texts have

pair : (n : ℕ) (rest : List ℕ) → n < 100 → two n rest ≡ pad2 n ++ rest
pair n rest h =
    let high : n / 10 % 10 ≡ n / 10 = omega arith in
    let low : n / 1 % 10 ≡ n % 10 = omega arith in
    rw (high, low) refl

four : (n : ℕ) (rest : List ℕ) → n < 10_000 → digit n 1000 ∷ digit n 100 ∷ two n rest ≡ pad4 n ++ rest
four n rest h =
    let first : n / 1000 % 10 ≡ n / 100 / 10 = omega arith in
    let third : n / 10 % 10 ≡ n % 100 / 10 = omega arith in
    let last : n / 1 % 10 ≡ n % 100 % 10 = omega arith in
    rw (first, third, last) refl

abbrev six : ℕ → List ℕ → List ℕ
six n rest = digit n 100000 ∷ digit n 10000 ∷ digit n 1000 ∷ digit n 100 ∷ two n rest

micros_are : (n : ℕ) (rest : List ℕ) → n < 1_000_000 → six n rest ≡ places 6 1_000_000_000 (n * 1000) ++ rest
unfolding places
micros_are n rest h =
    let a : n / 100000 % 10 ≡ n * 1000 / 100_000_000 = omega arith in
    let b : n / 10000 % 10 ≡ n * 1000 % 100_000_000 / 10_000_000 = omega arith in
    let c : n / 1000 % 10 ≡ n * 1000 % 100_000_000 % 10_000_000 / 1_000_000 = omega arith in
    let d : n / 100 % 10 ≡ n * 1000 % 100_000_000 % 10_000_000 % 1_000_000 / 100_000 = omega arith in
    let e : n / 10 % 10 ≡ n * 1000 % 100_000_000 % 10_000_000 % 1_000_000 % 100_000 / 10_000 = omega arith in
    let f : n / 1 % 10 ≡ n * 1000 % 100_000_000 % 10_000_000 % 1_000_000 % 100_000 % 10_000 / 1000 = omega arith in
    rw (a, b, c, d, e, f) refl

-- ---- the parts are read

date_back : (y m d : ℕ) (rest : List ℕ) → IsCivilDate (pos y) m d → y < 10_000
    → date_spec (digit y 1000 ∷ digit y 100 ∷ two y (45 ∷ two m (45 ∷ two d rest))) ≡ Ok (record { year = pos y; month = m; day = d }, rest)
date_back y m d rest h small =
    let days = days_in_month_bounds (pos y) m in
    let after_month = 45 ∷ pad2 d ++ rest in
    let after_year = 45 ∷ pad2 m ++ after_month in
    let fits : nat_lt (days_in_month (pos y) m) d ≡ false = grind (arith, nat_tests, h.2.1) in
    let shape : digit y 1000 ∷ digit y 100 ∷ two y (45 ∷ two m (45 ∷ two d rest)) ≡ pad4 y ++ after_year =
    rw (pair d rest (omega (arith, h.2.1, days.0)), pair m after_month (omega (arith, h.1.1)), four y after_year small) refl in
    rw shape (date_spec-ok (pad4 y ++ after_year) after_year (pad2 m ++ after_month) after_month (pad2 d ++ rest) rest (pos y) m d
    (year-text (pos y) after_year h.0) refl
    (field-pad2 _ 1 12 _ m after_month h.1.0 h.1.1 (omega (arith, h.1.1))) refl
    (field-pad2 _ 1 31 _ d rest h.2.0 (omega (arith, h.2.1, days.0)) (omega (arith, h.2.1, days.0))) fits)

abbrev zulu : List ℕ
zulu = 90 ∷ []

places_back : (n : ℕ) → n < 1_000_000 → temporal_fraction (46 ∷ places 6 1_000_000_000 (n * 1000) ++ zulu) ≡ Ok (Some (n * 1000), zulu)
unfolding temporal_fraction nanoseconds
places_back n h =
    let text = places 6 1_000_000_000 (n * 1000) in
    let facts = places-read 6 9 (n * 1000) zulu (omega arith) (omega arith) in
    let none : prefix_len is_ascii_digit zulu ≡ 0 = refl in
    let count : min (prefix_len is_ascii_digit (text ++ zulu)) 9 ≡ 6 = omega (arith, facts.0, none) in
    let value : fraction_value 9 text ≡ n * 1000 = omega (arith, facts.2) in
    rw (count, take_at text zulu 6 facts.1, drop_at text zulu 6 facts.1, value) refl

fraction_back : (n : ℕ) → n < 1_000_000 → temporal_fraction (46 ∷ six n zulu) ≡ Ok (Some (n * 1000), zulu)
fraction_back n h = subst (λ x. temporal_fraction (46 ∷ x) ≡ Ok (Some (n * 1000), zulu)) (sym (micros_are n zulu h)) (places_back n h)

time_back : (hour minute second micros : ℕ) → hour < 24 → minute < 60 → second < 60 → micros < 1_000_000
    → time_spec (two hour (58 ∷ two minute (58 ∷ two second (46 ∷ six micros zulu)))) ≡ Ok ((record { hour = hour; minute = minute; second = second; subsec = micros * 1000 }, true), zulu)
unfolding time_spec
time_back hour minute second micros a b c d =
    let fraction = 46 ∷ six micros zulu in
    let after_minute = 58 ∷ pad2 second ++ fraction in
    let after_hour = 58 ∷ pad2 minute ++ after_minute in
    let shape : two hour (58 ∷ two minute (58 ∷ two second fraction)) ≡ pad2 hour ++ after_hour =
    rw (pair second fraction (omega (arith, c)), pair minute after_minute (omega (arith, b)), pair hour after_hour (omega (arith, a))) refl in
    let no_leap : (second == 60) ≡ false = grind (arith, nat_tests, c) in
    rw (
      shape,
      field-pad2 Syntax.Hour 0 23 Bounds.Hour hour after_hour (omega arith) (omega (arith, a)) (omega (arith, a)),
      field-pad2 Syntax.Minute 0 59 Bounds.Minute minute after_minute (omega arith) (omega (arith, b)) (omega (arith, b)),
      field-pad2 Syntax.Second 0 60 Bounds.LeapSecond second fraction (omega arith) (omega (arith, c)) (omega (arith, c)),
      no_leap,
      fraction_back micros d,
    ) refl

pub text_back : (y m d hour minute second micros : ℕ) (nanos : ℤ) → IsCivilDate (pos y) m d → y < 10_000 → hour < 24 → minute < 60 → second < 60 → micros < 1_000_000
    → parts_nanos (record { year = pos y; month = m; day = d }) (record { hour = hour; minute = minute; second = second; subsec = micros * 1000 }) -ℤ nanos_of_seconds (pos 0) ≡ nanos
    → IsTimestampNanos nanos
    → parse_timestamp (fields_text y m d hour minute second micros) ≡ Ok nanos
unfolding temporal_datetime
text_back y m d hour minute second micros nanos h small a b c e value range =
    let clock = two hour (58 ∷ two minute (58 ∷ two second (46 ∷ six micros zulu))) in
    rw (date_back y m d (84 ∷ clock) h small, time_back hour minute second micros a b c e, offset-zulu, annotations-empty, value, instant-ok nanos range) refl
