-- Readings that were taken of a clock, some and then more.
use Rattle.std.proofs.Common.{◌≡◌, ℕ, ◌+◌, List, [], ◌∷◌, ◌++◌, length, Option, sym, subst, arith, length-append}
use Rattle.cat_serve.specs.ReadingLaws.{none_more, one_more}
use Rattle.cat_serve.specs.Sessions.{BeginsAt, HasTaken, Readings, Standing, Took}

pub took_on : (xs ys : List ℕ) (a b c : Option Readings) → Took xs a b → Took ys b c → Took (xs ++ ys) a c
took_on [] ys a b c same more = subst (λ (o : Option Readings). Took ys o c) same more
took_on (x ∷ xs) ys a b c (next, ticks, rest) more = (next, ticks, took_on xs ys next b c rest more)

pub begins_first : (n : ℕ) (clock : Readings) (xs ys : List ℕ) → BeginsAt n clock (xs ++ ys) → BeginsAt n clock xs
begins_first n clock [] ys p = tt
begins_first n clock (x ∷ xs) ys (is, rest) = (is, begins_first (n + 1) clock xs ys rest)

begins_behind : (n : ℕ) (clock : Readings) (xs ys : List ℕ) → BeginsAt n clock (xs ++ ys) → BeginsAt (n + length xs) clock ys
begins_behind n clock [] ys p = subst (λ (m : ℕ). BeginsAt m clock ys) (none_more n) p
begins_behind n clock (x ∷ xs) ys (is, rest) = subst (λ (m : ℕ). BeginsAt m clock ys) (one_more n x xs) (begins_behind (n + 1) clock xs ys rest)

pub begins_then : (clock : Readings) (xs ys : List ℕ) (s s' : Standing) → HasTaken xs s s' → BeginsAt s.session.readings clock (xs ++ ys) → BeginsAt s'.session.readings clock ys
begins_then clock xs ys s s' takes p = subst (λ (m : ℕ). BeginsAt m clock ys) (sym takes) (begins_behind s.session.readings clock xs ys p)

pub takes_on : (xs ys : List ℕ) (a b c : Standing) → HasTaken xs a b → HasTaken ys b c → HasTaken (xs ++ ys) a c
takes_on xs ys a b c one two =
    let long : length (xs ++ ys) ≡ length xs + length ys = length-append xs ys in
    let first : b.session.readings ≡ a.session.readings + length xs = one in
    let second : c.session.readings ≡ b.session.readings + length ys = two in
    omega (arith, long, first, second)

pub takes_none : (s : Standing) → HasTaken [] s s
takes_none s = none_more s.session.readings
