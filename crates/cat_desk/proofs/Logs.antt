-- Logs that go on.
use Rattle.std.proofs.Common.{◌≡◌, ◌≢◌, ℕ, ◌+◌, ◌<◌, ◌≤◌, ◌⊎◌, inl, inr, ⊎_elim, List, [], ◌∷◌, ◌++◌, length, refl, sym, ap, ap₂, ◌∙◌, subst, arith, length-append, max}
use Rattle.std.proofs.lemmas.List.{append_assoc, append-nil}
use Rattle.cat_model.specs.declared.log_entry.LogEntry.{LogEntry}
use Rattle.cat_model.specs.Turns.{Own, Adds}
use Rattle.cat_desk.specs.Log.{IsAmong, Others, WasGiven, OfGiven, Follows, Missed, Since, longer}
use Rattle.cat_desk.specs.LogLaws.{follows_itself, longer_cases, others_more}

given_more : (n : ℕ) (xs ys : List LogEntry) → OfGiven n xs → OfGiven n ys → OfGiven n (xs ++ ys)
given_more n [] ys a b = b
given_more n (x ∷ xs) ys a b = (a.0, given_more n xs ys a.1 b)

own_others : (n m : ℕ) (xs : List LogEntry) → m ≢ n → Own n xs → Others m xs
own_others n m [] ne a = tt
own_others n m (x ∷ xs) ne a = ((λ e. ne (sym e ∙ a.0)), own_others n m xs ne a.1)

own_given : (n next : ℕ) (xs : List LogEntry) → WasGiven next n → Own n xs → OfGiven next xs
own_given n next [] was a = tt
own_given n next (x ∷ xs) was a = (subst (WasGiven next) (sym a.0) was, own_given n next xs was a.1)

given_later : (n m : ℕ) (xs : List LogEntry) → n ≤ m → OfGiven n xs → OfGiven m xs
given_later n m [] le a = tt
given_later n m (x ∷ xs) le a = ((a.0.0, let b : x.caller < n = a.0.1 in omega arith), given_later n m xs le a.1)

-- a number that was not given has no entry
given_others : (n : ℕ) (xs : List LogEntry) → OfGiven n xs → Others n xs
given_others n [] a = tt
given_others n (x ∷ xs) a = (let b : x.caller < n = a.0.1 in (λ (e : x.caller ≡ n). omega arith), given_others n xs a.1)

pub missed_none : (n next : ℕ) (xs : List LogEntry) → Missed n next xs xs
missed_none n next xs = ([], sym (append-nil xs), tt, tt)

pub missed_follows : (n next : ℕ) (seen log : List LogEntry) → Missed n next seen log → Follows n seen log
missed_follows n next seen log m = (m.0, m.1, m.2)

-- what another caller adds keeps what a pass has seen a beginning
pub missed_more : (n m next : ℕ) (seen found log : List LogEntry) → m ≢ n → WasGiven next n → Missed m next seen found → Adds n found log → Missed m next seen log
missed_more n m next seen found log ne was f a = (
  f.0 ++ a.0,
  a.1 ∙ (ap (λ l. l ++ a.0) f.1 ∙ append_assoc seen f.0 a.0),
  others_more m f.0 a.0 f.2 (own_others n m a.0 ne a.2),
  given_more next f.0 a.0 f.3 (own_given n next a.0 was a.2),
)

pub missed_later : (n next later : ℕ) (seen log : List LogEntry) → next ≤ later → Missed n next seen log → Missed n later seen log
missed_later n next later seen log le m = (m.0, m.1, m.2, given_later next later m.0 le m.3)

-- the next number to be given has no entry in what a pass has missed
pub missed_next : (n next : ℕ) (seen log : List LogEntry) → Missed n next seen log → Missed next (next + 1) seen log
missed_next n next seen log m = (m.0, m.1, given_others next m.0 m.3, given_later next (next + 1) m.0 (omega arith) m.3)

pub since_none : (next : ℕ) (xs : List LogEntry) → Since next xs xs
since_none next xs = ([], sym (append-nil xs), tt)

pub since_later : (next later : ℕ) (first log : List LogEntry) → next ≤ later → Since next first log → Since later first log
since_later next later first log le s = (s.0, s.1, given_later next later s.0 le s.2)

pub since_more : (n next : ℕ) (first found log : List LogEntry) → WasGiven next n → Since next first found → Adds n found log → Since next first log
since_more n next first found log was s a = (s.0 ++ a.0, a.1 ∙ (ap (λ l. l ++ a.0) s.1 ∙ append_assoc first s.0 a.0), given_more next s.0 a.0 s.2 (own_given n next a.0 was a.2))

-- the next number to be given has no entry since the first
pub since_next : (next : ℕ) (first log : List LogEntry) → Since next first log → Follows next first log
since_next next first log s = (s.0, s.1, given_others next s.0 s.2)

pub adds_longer : (n : ℕ) (found log : List LogEntry) → Adds n found log → length found ≤ length log
adds_longer n found log a = let e : length log ≡ length found + length a.0 = ap length a.1 ∙ length-append found a.0 in omega arith

others_first : (n : ℕ) (xs ys : List LogEntry) → Others n (xs ++ ys) → Others n xs
others_first n [] ys a = tt
others_first n (x ∷ xs) ys a = (a.0, others_first n xs ys a.1)

others_tail : (n : ℕ) (xs ys : List LogEntry) → Others n (xs ++ ys) → Others n ys
others_tail n [] ys a = a
others_tail n (x ∷ xs) ys a = others_tail n xs ys a.1

after_first : List LogEntry → List LogEntry
after_first [] = []
after_first (x ∷ xs) = xs

first_or : LogEntry → List LogEntry → LogEntry
first_or d [] = d
first_or d (x ∷ xs) = x

-- of two beginnings of one list the longer has less behind it, and begins with the other
overlap : (xs ys a b : List LogEntry) → xs ++ a ≡ ys ++ b → length xs ≤ length ys → (mid : List LogEntry) × (a ≡ mid ++ b) × (ys ≡ xs ++ mid)
unfolding after_first first_or
overlap [] ys a b e le = (ys, e, refl)
overlap (x ∷ xs) [] a b e le = absurd (omega arith)
overlap (x ∷ xs) (y ∷ ys) a b e le = let o = overlap xs ys a b (ap after_first e) (omega arith) in
    (o.0, o.1, ap₂ (λ (z : LogEntry) (l : List LogEntry). z ∷ l) (sym (ap (first_or x) e)) o.2)

pub since_longer : (next : ℕ) (first xs ys : List LogEntry) → Since next first xs → Since next first ys → Since next first (longer xs ys)
since_longer next first xs ys a b = longer_cases xs ys (λ l. Since next first l) (λ _. b) (λ _. a)

pub longer_first : (xs ys : List LogEntry) → length xs ≤ length (longer xs ys)
longer_first xs ys = longer_cases xs ys (λ l. length xs ≤ length l) (λ lt. omega arith) (λ le. omega arith)

pub longer_second : (xs ys : List LogEntry) → length ys ≤ length (longer xs ys)
longer_second xs ys = longer_cases xs ys (λ l. length ys ≤ length l) (λ lt. omega arith) (λ le. omega arith)

-- of two beginnings of one log the longer has missed no more of either's caller
pub missed_longer : (n m next : ℕ) (xs ys log : List LogEntry) → Missed n next xs log → Missed m next ys log → Missed n next (longer xs ys) log
missed_longer n m next xs ys log a b = longer_cases xs ys (λ l. Missed n next l log)
    (λ lt. let o = overlap xs ys a.0 b.0 (sym a.1 ∙ b.1) (omega arith) in (b.0, b.1, others_tail n o.0 b.0 (subst (Others n) o.1 a.2), b.3))
    (λ _. a)

pub longer_missed : (n m next : ℕ) (xs ys log : List LogEntry) → Missed n next xs log → Missed m next ys log → Missed m next (longer xs ys) log
longer_missed n m next xs ys log a b = longer_cases xs ys (λ l. Missed m next l log)
    (λ _. b)
    (λ le. let o = overlap ys xs b.0 a.0 (sym b.1 ∙ a.1) le in (a.0, a.1, others_tail m o.0 a.0 (subst (Others m) o.1 b.2), a.3))

-- it goes on from both, with no entry more of either's caller
pub longer_first_on : (n m next : ℕ) (xs ys log : List LogEntry) → Missed n next xs log → Missed m next ys log → Follows n xs (longer xs ys)
longer_first_on n m next xs ys log a b = longer_cases xs ys (λ l. Follows n xs l)
    (λ lt. let o = overlap xs ys a.0 b.0 (sym a.1 ∙ b.1) (omega arith) in (o.0, o.2, others_first n o.0 b.0 (subst (Others n) o.1 a.2)))
    (λ _. follows_itself n xs)

pub longer_second_on : (n m next : ℕ) (xs ys log : List LogEntry) → Missed n next xs log → Missed m next ys log → Follows m ys (longer xs ys)
longer_second_on n m next xs ys log a b = longer_cases xs ys (λ l. Follows m ys l)
    (λ _. follows_itself m ys)
    (λ le. let o = overlap ys xs b.0 a.0 (sym b.1 ∙ a.1) le in (o.0, o.2, others_first m o.0 a.0 (subst (Others m) o.1 b.2)))

-- ---- numbers of passes

pub among_first : (n : ℕ) (ms ks : List ℕ) → IsAmong n ms → IsAmong n (ms ++ ks)
among_first n [] ks is = absurd is
among_first n (m ∷ ms) ks (inl same) = inl same
among_first n (m ∷ ms) ks (inr is) = inr (among_first n ms ks is)

pub among_second : (n : ℕ) (ms ks : List ℕ) → IsAmong n ks → IsAmong n (ms ++ ks)
among_second n [] ks is = is
among_second n (m ∷ ms) ks is = inr (among_second n ms ks is)

among_either : (n : ℕ) (ms ks : List ℕ) → IsAmong n (ms ++ ks) → IsAmong n ms ⊎ IsAmong n ks
among_either n [] ks is = inr is
among_either n (m ∷ ms) ks (inl same) = inl (inl same)
among_either n (m ∷ ms) ks (inr is) = ⊎_elim (λ (a : IsAmong n ms). inl (inr a)) (λ (b : IsAmong n ks). inr b) (among_either n ms ks is)

-- what holds of the numbers of each of two lists, holds of both
pub of_both : (P : ℕ → Type 0) (ms ks : List ℕ) → ((n : ℕ) → IsAmong n ms → P n) → ((n : ℕ) → IsAmong n ks → P n) → (n : ℕ) → IsAmong n (ms ++ ks) → P n
of_both P ms ks one two n is = ⊎_elim (λ (a : IsAmong n ms). one n a) (λ (b : IsAmong n ks). two n b) (among_either n ms ks is)

none_left : (seen rest log : List LogEntry) → log ≡ seen ++ rest → length log ≤ length seen → seen ≡ log
none_left seen [] log e le = sym (e ∙ append-nil seen)
none_left seen (x ∷ xs) log e le = let n : length log ≡ length seen + length (x ∷ xs) = ap length e ∙ length-append seen (x ∷ xs) in absurd (omega arith)

pub whole : (n next : ℕ) (seen log : List LogEntry) → Missed n next seen log → length log ≤ length seen → seen ≡ log
whole n next seen log m le = none_left seen m.0 log m.1 le

pub longer_bound : (first : ℕ) (xs ys : List LogEntry) (a b : ℕ) → first + length xs ≤ a → first + length ys ≤ b → first + length (longer xs ys) ≤ max a b
longer_bound first xs ys a b p q = longer_cases xs ys (λ l. first + length l ≤ max a b) (λ _. omega arith) (λ _. omega arith)
