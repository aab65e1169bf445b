-- Instants as texts, and moments: microseconds since 1970.
use Rattle.std.specs.Prelude.{negsuc, Option, Some, None, Result, Ok, Err, ℕ, zero, suc, ◌+◌, ◌/◌, ◌%◌, ◌-◌, ℤ, pos, unsigned_abs, List, [], ◌∷◌, nat_le, if◌then◌else◌}
use Rattle.jiff_core.specs.Calendar.{day_count, days_of_months}
use Rattle.jiff.specs.Types.{DateTime}
use Rattle.jiff.specs.Words.{parse_timestamp, Error}
use Rattle.serde_json.specs.Data.{Data, string}
use Rattle.serde_json.specs.Find.{as_str}
use Rattle.cat_json.specs.Reading.{◌>>=◌}

-- cut to microseconds, where it isn't before 1970
abbrev pub after_epoch : Result ℤ Error → Option ℕ
after_epoch (Ok (pos n)) = Some (n / 1000)
after_epoch (Ok (negsuc n)) = None
after_epoch (Err e) = None

-- the moment that a text names
abbrev pub moment_of : List ℕ → Option ℕ
moment_of text = after_epoch (parse_timestamp text)

abbrev pub moment_as : Data → Option ℕ
moment_as d = as_str d >>= moment_of

-- ---- and written

-- one decimal digit of a number
abbrev pub digit : ℕ → ℕ → ℕ
digit n unit = 48 + n / unit % 10

-- two digits
abbrev pub two : ℕ → List ℕ → List ℕ
two n rest = digit n 10 ∷ digit n 1 ∷ rest

-- `YYYY-MM-DDTHH:MM:SS.ffffffZ`
abbrev pub fields_text : ℕ → ℕ → ℕ → ℕ → ℕ → ℕ → ℕ → List ℕ
fields_text year month day hour minute second micros =
    digit year 1000 ∷ digit year 100 ∷ two year (45 ∷ two month (45 ∷ two day
    (84 ∷ two hour (58 ∷ two minute (58 ∷ two second
    (46 ∷ digit micros 100000 ∷ digit micros 10000 ∷ digit micros 1000 ∷ digit micros 100 ∷ two micros (90 ∷ [])))))))

abbrev pub civil_text : DateTime → List ℕ
civil_text dt =
    fields_text (unsigned_abs dt.date.year) dt.date.month dt.date.day dt.time.hour dt.time.minute dt.time.second (dt.time.subsec_nanosecond / 1000)

-- the last i up to n at which f is at most k
unfoldable pub last_at : (ℕ → ℕ) → ℕ → ℕ → ℕ
last_at f k zero = 0
last_at f k (suc n) = if nat_le (f (suc n)) k then suc n else last_at f k n

-- the days from 1 January 1970 to 1 January of so many years later
abbrev pub year_start : ℕ → ℕ
year_start i = day_count (pos (1970 + i)) 1 1 - day_count (pos 1970) 1 1

-- the year of a day is the last that begins at or before it, and so is the month
abbrev pub years_of : ℕ → ℕ
years_of day = last_at year_start day 8029

abbrev pub year_of : ℕ → ℕ
year_of day = 1970 + years_of day

-- the days of the year before the day
abbrev pub rest_of : ℕ → ℕ
rest_of day = day - year_start (years_of day)

abbrev pub months_of : ℕ → ℕ
months_of day = last_at (days_of_months (pos (year_of day))) (rest_of day) 11

abbrev pub day_in_month : ℕ → ℕ
day_in_month day = rest_of day - days_of_months (pos (year_of day)) (months_of day) + 1

abbrev pub day_of : ℕ → ℕ
day_of micros = micros / 86_400_000_000

unfoldable pub instant_text : ℕ → List ℕ
instant_text micros =
    fields_text (year_of (day_of micros)) (months_of (day_of micros) + 1) (day_in_month (day_of micros))
    (micros / 3_600_000_000 % 24) (micros / 60_000_000 % 60) (micros / 1_000_000 % 60) (micros % 1_000_000)

abbrev pub moment_data : ℕ → Data
moment_data micros = string (instant_text micros)
