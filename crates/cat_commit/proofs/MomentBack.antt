-- The text of a moment names that moment.
use Rattle.std.proofs.Common.{◌≡◌, ℕ, zero, suc, ◌+◌, ◌-◌, ◌*◌, ◌/◌, ◌%◌, ◌<◌, ◌≤◌, true, false, cond, nat_le, Some, refl, ap, subst, ◌∙◌, arith, ℤ, pos, ◌+ℤ◌, ◌-ℤ◌, ◌*ℤ◌}
use Rattle.std.proofs.lemmas.Bool.{leb-false, leb-true}
use Rattle.jiff_core.proofs.SignedLemmas.{signed_arith}
use Rattle.jiff_core.proofs.CalendarLemmas.{day_count-day_of_year, day_count-end, day_count-epoch, day_count-next_year, days_from_civil-day_count, days_of_months-zero, days_of_months_all}
use Rattle.jiff_core.specs.Calendar.{IsCivilDate, day_count, days_from_civil, days_in_month, days_in_year, days_of_months}
use Rattle.jiff_core.specs.Timestamp.{IsTimestampNanos, nanos_of_seconds}
use Rattle.cat_commit.specs.Instants.{day_in_month, day_of, instant_text, last_at, moment_of, months_of, rest_of, year_of, year_start, years_of}
use Rattle.cat_commit.proofs.Dates.{from_start}
use Rattle.cat_commit.proofs.TextBack.{text_back}

-- ---- the last place is one, and the next is past it

abbrev IsLast : (ℕ → ℕ) → ℕ → ℕ → ℕ → Type 0
IsLast f k n i = (i ≤ n) × (f i ≤ k) × (k < f (suc i))

last_at_holds : (f : ℕ → ℕ) (k n : ℕ) → f 0 ≤ k → k < f (suc n) → IsLast f k n (last_at f k n)
unfolding last_at
last_at_holds f k zero low high = (omega arith, low, high)
last_at_holds f k (suc n) low high =
    elim (nat_le (f (suc n)) k) as (λ b. nat_le (f (suc n)) k ≡ b → IsLast f k (suc n) (cond b (suc n) (last_at f k n))) [
      | true ↦ λ e. (omega arith, leb-true (f (suc n)) k e, high)
      | false ↦ λ e. let h = last_at_holds f k n low (leb-false (f (suc n)) k e) in (omega (arith, h.0), h.1, h.2)
    ] refl

-- ---- the day has its year, month and day

year_next : (i : ℕ) → day_count (pos (1970 + suc i)) 1 1 ≡ day_count (pos (1970 + i)) 1 1 + days_in_year (pos (1970 + i))
year_next i = day_count-next_year (pos (1970 + i)) (pos (1970 + suc i)) (omega (arith, signed_arith)) (omega (arith, signed_arith))

months_more : (y : ℤ) (n : ℕ) → days_of_months y (suc n) ≡ days_of_months y n + days_in_month y (suc n)
unfolding days_of_months
months_more y n = refl

module _ (day : ℕ) (bound : day ≤ 2_932_896) where
  abbrev year : ℤ
  year = pos (year_of day)

  in_year : IsLast year_start day 8029 (years_of day)
  in_year = last_at_holds year_start day 8029 (omega arith) (omega (arith, day_count-end, day_count-epoch, bound))

  rest_below : rest_of day < days_in_year year
  rest_below = omega (arith, in_year.1, in_year.2, year_next (years_of day), from_start (years_of day))

  in_months : IsLast (days_of_months year) (rest_of day) 11 (months_of day)
  in_months = last_at_holds (days_of_months year) (rest_of day) 11 (omega (arith, days_of_months-zero year)) (omega (arith, rest_below, days_of_months_all year))

  pub year_small : year_of day < 10_000
  year_small = omega (arith, in_year.0)

  month_is : suc (months_of day) ≡ months_of day + 1
  month_is = omega arith

  day_below : day_in_month day ≤ days_in_month year (months_of day + 1)
  day_below = subst (λ m. day_in_month day ≤ days_in_month year m) month_is (omega (arith, in_months.1, in_months.2, months_more year (months_of day)))

  pub civil_day : IsCivilDate year (months_of day + 1) (day_in_month day)
  civil_day = ((omega (arith, signed_arith, year_small), omega (arith, signed_arith, year_small)), (omega arith, omega (arith, in_months.0)), (omega arith, day_below))

  before : months_of day + 1 - 1 ≡ months_of day
  before = omega arith

  count : day_count year (months_of day + 1) (day_in_month day) ≡ day + 4_371_953
  count =
      omega (arith, day_count-day_of_year year (months_of day + 1) (day_in_month day) (omega arith), ap (days_of_months year) before, in_months.1, in_year.1, from_start (years_of day), day_count-epoch)

  pub number : days_from_civil year (months_of day + 1) (day_in_month day) ≡ pos day
  number = omega (arith, signed_arith, count, days_from_civil-day_count year (months_of day + 1) (day_in_month day))

-- ---- the moment

clock_is : (micros : ℕ) → micros / 86_400_000_000 * 86_400_000_000_000
    + ((micros / 3_600_000_000 % 24 * 3_600 + micros / 60_000_000 % 60 * 60 + micros / 1_000_000 % 60) * 1_000_000_000 + micros % 1_000_000 * 1000) ≡ micros * 1000
clock_is micros = omega arith

nanos_are : (z : ℤ) (day clock : ℕ) → z ≡ pos day → z *ℤ pos 86_400_000_000_000 +ℤ pos clock -ℤ nanos_of_seconds (pos 0) ≡ pos (day * 86_400_000_000_000 + clock)
nanos_are z day clock e = omega (arith, signed_arith, e)

thousandth : (micros : ℕ) → micros * 1000 / 1000 ≡ micros
thousandth micros = omega arith

pub moment_back : (micros : ℕ) → micros ≤ 253_402_207_200_999_999 → moment_of (instant_text micros) ≡ Some micros
unfolding instant_text
moment_back micros bound =
    let day : ℕ = day_of micros in
    let within : day ≤ 2_932_896 = omega (arith, bound) in
    let value = nanos_are (days_from_civil (pos (year_of day)) (months_of day + 1) (day_in_month day)) day
    ((micros / 3_600_000_000 % 24 * 3_600 + micros / 60_000_000 % 60 * 60 + micros / 1_000_000 % 60) * 1_000_000_000 + micros % 1_000_000 * 1000)
    (number day within) ∙ ap pos (clock_is micros) in
    let range : IsTimestampNanos (pos (micros * 1000)) = (omega (arith, signed_arith), omega (arith, signed_arith, bound)) in
    rw (text_back (year_of day) (months_of day + 1) (day_in_month day) (micros / 3_600_000_000 % 24) (micros / 60_000_000 % 60) (micros / 1_000_000 % 60) (micros % 1_000_000)
    (pos (micros * 1000)) (civil_day day within) (year_small day within) (omega arith) (omega arith) (omega arith) (omega arith) value range) (ap Some (thousandth micros))
