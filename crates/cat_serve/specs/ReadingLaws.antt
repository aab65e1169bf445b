-- Laws of readings that were taken of a clock.
use Rattle.std.proofs.Common.{◌≡◌, ℕ, suc, ◌+◌, List, [], ◌∷◌, length, get_or, Option, Some, None, refl, sym, ◌∙◌, ap, arith}
use Rattle.cat_io.specs.Clocks.{from, ticks_on}
use Rattle.cat_serve.specs.Sessions.{AreAhead, BeginsAt, Readings, ReadsOn, Took}

pub none_more : (n : ℕ) → n ≡ n + 0
none_more n = omega arith

pub one_more : (n reading : ℕ) (readings : List ℕ) → n + 1 + length readings ≡ n + length (reading ∷ readings)
one_more n reading readings = omega arith

from_first : (clock : Readings) → clock ≡ from 0 clock
from_first clock = λ i k. clock (same k i)
  where
    same : (k : ℕ) → k ≡ 0 + k
    same k = omega arith

-- ---- where the clock tells

-- it tells what was taken, and stands behind it
told_on : (n : ℕ) (told : Readings) (taken : List ℕ) (ahead now : Option Readings) → ahead ≡ Some (from n told) → Took taken ahead now → BeginsAt n told taken × (now ≡ Some (from (n + length taken) told))
told_on n told [] ahead now at same = (tt, same ∙ at ∙ ap (λ (m : ℕ). Some (from m told)) (none_more n))
told_on n told (x ∷ xs) ahead now at (next, ticks, rest) =
    let read = ticks_on n told ahead next x at ticks in
    let more = told_on (n + 1) told xs next now read.1 rest in
    ((sym read.0, more.0), more.1 ∙ ap (λ (m : ℕ). Some (from m told)) (one_more n x xs))

pub reads_on : (taken : List ℕ) (ahead now : Option Readings) (count : ℕ) → Took taken ahead now → count ≡ 0 + length taken → ReadsOn ahead now count
reads_on taken ahead now count took is told e =
    (told_on 0 told taken ahead now (e ∙ ap Some (from_first told)) took).1 ∙ ap (λ (m : ℕ). Some (from m told)) (sym is)

-- ---- some readings that begin so

begins_shifted : (n x : ℕ) (xs ys : List ℕ) → BeginsAt n (λ k. get_or xs k 0) ys → BeginsAt (n + 1) (λ k. get_or (x ∷ xs) k 0) ys
begins_shifted n x xs [] p = tt
begins_shifted n x xs (y ∷ ys) (is, rest) = (ap (λ (k : ℕ). get_or (x ∷ xs) k 0) next ∙ is, begins_shifted (n + 1) x xs ys rest)
  where
    next : n + 1 ≡ suc n
    next = omega arith

begins_itself : (xs : List ℕ) → BeginsAt 0 (λ k. get_or xs k 0) xs
begins_itself [] = tt
begins_itself (x ∷ xs) = (refl, begins_shifted 0 x xs xs (begins_itself xs))

not_told : (told : Readings) → ◌≡◌ {A = Option Readings} None (Some told) → ⊥
not_told told e = cc

same_told : (a b : Readings) → ◌≡◌ {A = Option Readings} (Some a) (Some b) → a ≡ b
same_told a b e = cc

-- the clock's own where it tells them, or else what was taken and no more
pub some_readings : (taken : List ℕ) (ahead now : Option Readings) → Took taken ahead now → (clock : Readings) × AreAhead ahead clock × BeginsAt 0 clock taken
some_readings taken None now took = ((λ k. get_or taken k 0), (λ told e. absurd (not_told told e)), begins_itself taken)
some_readings taken (Some told) now took = (told, (λ other e. same_told told other e), (told_on 0 told taken (Some told) now (ap Some (from_first told)) took).0)
