-- The civil fields of a moment are those that the definition counts.
use Rattle.std.proofs.Common.{◌≡◌, ℕ, zero, suc, ◌+◌, ◌*◌, ◌/◌, ◌%◌, ◌-◌, ◌<◌, ◌≤◌, true, false, cond, nat_le, refl, inl, inr, sym, ap, subst, ◌∙◌, arith, ℤ, pos, negsuc, ◌*ℤ◌, ◌≤ℤ◌}
use Rattle.std.specs.Prelude.{unsigned_abs}
use Rattle.std.proofs.lemmas.Bool.{cases_order, leb-false, leb-true}
use Rattle.std.proofs.lemmas.Int.{by_lt_z}
use Rattle.jiff_core.proofs.SignedLemmas.{signed_arith}
use Rattle.jiff_core.specs.Calendar.{day_count, days_of_months, day_of_year, IsCivilDate}
use Rattle.jiff_core.specs.Date.{epoch_day}
use Rattle.jiff_core.specs.Time.{time_nanos}
use Rattle.jiff_core.proofs.CalendarLemmas.{day_count-epoch, day_count-day_of_year, day_count-later_year, day_count-lt_year, day_of_year_bound, day_of_year_before, days_from_civil-day_count}
use Rattle.jiff_core.proofs.DateLemmas.{civil}
use Rattle.jiff.proofs.Family.{civil_nanos-parts, time_nanos_bound}
use Rattle.jiff.specs.Words.{civil_nanos}
use Rattle.jiff.specs.Types.{DateTime, Date, Time}
use Rattle.cat_commit.specs.Instants.{last_at, year_start, years_of, year_of, months_of, day_in_month, civil_text, instant_text}

above : (f : ℕ → ℕ) (k n i : ℕ) → i ≤ suc n → f (suc n) ≤ k → ((j : ℕ) → i < j → k < f j) → suc n ≡ i
above f k n i le at after =
    elim (cases_order i (suc n)) [
      | inl same ↦ sym same
      | inr (inl lt) ↦ let over : k < f (suc n) = after (suc n) lt in absurd (omega (arith, over))
      | inr (inr gt) ↦ absurd (omega arith)
    ]

below : (f : ℕ → ℕ) (k n i : ℕ) → i ≤ suc n → k < f (suc n) → f i ≤ k → i ≤ n
below f k n i le over at =
    elim (cases_order i (suc n)) [
      | inl same ↦ let here : f (suc n) ≤ k = subst (λ j. f j ≤ k) same at in absurd (omega (arith, here))
      | inr (inl lt) ↦ omega arith
      | inr (inr gt) ↦ absurd (omega arith)
    ]

pub last_at_is : (f : ℕ → ℕ) (k n i : ℕ) → i ≤ n → f i ≤ k → ((j : ℕ) → i < j → k < f j) → last_at f k n ≡ i
unfolding last_at
last_at_is f k zero i le at after = omega arith
last_at_is f k (suc n) i le at after =
    elim (nat_le (f (suc n)) k) as (λ b. nat_le (f (suc n)) k ≡ b → cond b (suc n) (last_at f k n) ≡ i) [
      | true ↦ λ e. above f k n i le (leb-true (f (suc n)) k e) after
      | false ↦ λ e. last_at_is f k n i (below f k n i le (leb-false (f (suc n)) k e) at) at after
    ] refl

as_pos : (z : ℤ) → pos 1970 ≤ℤ z → z ≡ pos (1970 + (unsigned_abs z - 1970))
as_pos (pos n) h = let m : n ≡ 1970 + (n - 1970) = omega (arith, signed_arith) in ap pos m
as_pos (negsuc n) h = absurd (omega (arith, signed_arith))

pub from_start : (i : ℕ) → day_count (pos 1970) 1 1 ≤ day_count (pos (1970 + i)) 1 1
from_start zero = omega arith
from_start (suc n) = omega (arith, day_count-later_year (pos 1970) (pos (1970 + suc n)) (omega (arith, signed_arith)) (omega (arith, signed_arith)))

-- ---- the year and the month of a date from 1970 on

module _ (i m d day : ℕ) (h : IsCivilDate (pos (1970 + i)) m d) (e : day_count (pos (1970 + i)) m d ≡ day + 4_371_953) where
  abbrev year : ℤ
  year = pos (1970 + i)

  begins : day_count year 1 1 + day_of_year year m d ≡ day + 4_371_954
  begins = omega (arith, day_count-day_of_year year m d h.2.0, e)

  next_begins : (j : ℕ) → i < j → day + 4_371_953 < day_count (pos (1970 + j)) 1 1
  next_begins j lt = omega (arith, begins, day_of_year_bound year m d h, day_count-later_year year (pos (1970 + j)) (omega (arith, signed_arith)) (omega (arith, signed_arith)))

  pub years_is : years_of day ≡ i
  years_is = last_at_is year_start day 8029 i
      (omega (arith, signed_arith, h.0))
      (omega (arith, begins, day_count-epoch, h.2.0))
      (λ j lt. omega (arith, next_begins j lt, day_count-epoch))

  rest_is : day - year_start i + 1 ≡ day_of_year year m d
  rest_is = omega (arith, begins, day_count-epoch, from_start i, h.2.0)

  month_at : last_at (days_of_months year) (day - year_start i) 11 ≡ m - 1
  month_at =
      last_at_is (days_of_months year) (day - year_start i) 11 (m - 1)
      (omega (arith, h.1)) (omega (arith, rest_is, h.2.0)) (λ j lt. omega (arith, rest_is, day_of_year_before year m d j h.1.0 h.2.1 (omega (arith, h.1.0))))

  pub months_is : months_of day + 1 ≡ m
  months_is = rw (years_is, month_at) (omega (arith, h.1))

  pub day_is : day_in_month day ≡ d
  day_is = rw (years_is, month_at) (omega (arith, rest_is, h.2.0))

module _ (d : Date) (day : ℕ) (e : epoch_day d ≡ pos day) where
  count : day_count d.year d.month d.day ≡ day + 4_371_953
  count = omega (arith, signed_arith, e, days_from_civil-day_count d.year d.month d.day)

  from_1970 : pos 1970 ≤ℤ d.year
  from_1970 = by_lt_z d.year (pos 1970)
      (λ lt. absurd (omega (arith, day_count-lt_year d.year d.month d.day (pos 1970) 1 1 (civil d) (omega arith) lt, count, day_count-epoch)))
      (λ le. le)

-- ---- the text

time_is : (dt : DateTime) (micros : ℕ) → civil_nanos dt ≡ pos micros *ℤ pos 1000 → (epoch_day dt.date ≡ pos (micros / 86_400_000_000)) × (time_nanos dt.time ≡ micros % 86_400_000_000 * 1000)
time_is dt micros e = omega (arith, signed_arith, civil_nanos-parts dt, time_nanos_bound dt.time, e)

parts_are : (t : Time) (micros : ℕ) → time_nanos t ≡ micros % 86_400_000_000 * 1000
    → (t.hour ≡ micros / 3_600_000_000 % 24) × (t.minute ≡ micros / 60_000_000 % 60) × (t.second ≡ micros / 1_000_000 % 60) × (t.subsec_nanosecond / 1000 ≡ micros % 1_000_000)
parts_are t micros e = omega (arith, e)

pub text_is : (dt : DateTime) (micros : ℕ) → civil_nanos dt ≡ pos micros *ℤ pos 1000 → civil_text dt ≡ instant_text micros
unfolding instant_text
text_is dt micros e =
    let t = time_is dt micros e in
    let p = parts_are dt.time micros t.1 in
    let day : ℕ = micros / 86_400_000_000 in
    let i : ℕ = unsigned_abs dt.date.year - 1970 in
    let y : dt.date.year ≡ pos (1970 + i) = as_pos dt.date.year (from_1970 dt.date day t.0) in
    let h : IsCivilDate (pos (1970 + i)) dt.date.month dt.date.day = subst (λ z. IsCivilDate z dt.date.month dt.date.day) y (civil dt.date) in
    let c : day_count (pos (1970 + i)) dt.date.month dt.date.day ≡ day + 4_371_953 = subst (λ z. day_count z dt.date.month dt.date.day ≡ day + 4_371_953) y (count dt.date day t.0) in
    let year : unsigned_abs dt.date.year ≡ year_of day = ap unsigned_abs y ∙ ap (λ n. 1970 + n) (sym (years_is i dt.date.month dt.date.day day h c)) in
    rw (year, sym (months_is i dt.date.month dt.date.day day h c), sym (day_is i dt.date.month dt.date.day day h c), p.0, p.1, p.2, p.3) refl
