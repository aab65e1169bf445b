-- Durations and instants as texts, in microseconds.
use Rattle.std.specs.Prelude.{ℕ, ◌+◌, ◌*◌, ◌/◌, ◌==◌, ◌&&◌, ℤ, pos, negsuc, List, Option, Some, None, Result, Ok, Err, if◌then◌else◌, slice_index}
use Rattle.jiff.specs.Words.{parse_timestamp, parse_span, Error}

-- cut, where it isn't before 1970
abbrev pub after_epoch : Result ℤ Error → Option ℕ
after_epoch (Ok (pos n)) = Some (n / 1000)
after_epoch (Ok (negsuc n)) = None
after_epoch (Err e) = None

-- the instant that a text names
abbrev pub instant_of : List ℕ → Option ℕ
instant_of text = after_epoch (parse_timestamp text)

-- the nanoseconds of a span without years and months, by its magnitudes from the weeks on: a week of 7 days of 24 hours
abbrev pub span_nanos : List ℕ → ℕ
span_nanos m =
    ((((slice_index m 3 * 7 + slice_index m 4) * 24 + slice_index m 5) * 60 + slice_index m 6) * 60 + slice_index m 7) * 1_000_000_000
    + slice_index m 8 * 1_000_000 + slice_index m 9 * 1_000 + slice_index m 10

-- cut, where the span has no sign, no years and no months
abbrev pub span_micros : List ℕ → Option ℕ
span_micros m =
    if (slice_index m 0 == 0) && (slice_index m 1 == 0) && (slice_index m 2 == 0) then Some (span_nanos m / 1000) else None

abbrev pub of_span : Result (List ℕ) Error → Option ℕ
of_span (Ok m) = span_micros m
of_span (Err e) = None

-- the length of the duration that a text is
abbrev pub duration_of : List ℕ → Option ℕ
duration_of text = of_span (parse_span text)
