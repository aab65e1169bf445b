-- Laws of logs that go on.
use Rattle.std.proofs.Common.{◌≡◌, ℕ, ◌<◌, ◌≤◌, List, [], ◌∷◌, ◌++◌, length, sym, ap, ◌∙◌, subst, arith, cond, nat_lt, true, false}
use Rattle.std.proofs.lemmas.List.{append_assoc, append-nil}
use mathlib.Core.Logic.{dite}
use native.Mathlib.Decide.{dec_le}
use Rattle.std.proofs.lemmas.Bool.Decides.{nat_tests}
use Rattle.cat_model.specs.declared.log_entry.LogEntry.{LogEntry}
use Rattle.cat_desk.specs.Log.{BeginsWith, Follows, Others, longer}

pub begins_itself : (log : List LogEntry) → BeginsWith log log
begins_itself log = ([], sym (append-nil log))

pub begins_on : (l m k : List LogEntry) → BeginsWith l m → BeginsWith m k → BeginsWith l k
begins_on l m k one two = (one.0 ++ two.0, two.1 ∙ (ap (λ (x : List LogEntry). x ++ two.0) one.1 ∙ append_assoc l one.0 two.0))

pub others_more : (n : ℕ) (xs ys : List LogEntry) → Others n xs → Others n ys → Others n (xs ++ ys)
others_more n [] ys a b = b
others_more n (x ∷ xs) ys a b = (a.0, others_more n xs ys a.1 b)

pub follows_itself : (n : ℕ) (log : List LogEntry) → Follows n log log
follows_itself n log = ([], sym (append-nil log), tt)

pub follows_on : (n : ℕ) (a b c : List LogEntry) → Follows n a b → Follows n b c → Follows n a c
follows_on n a b c f g = (f.0 ++ g.0, g.1 ∙ (ap (λ (l : List LogEntry). l ++ g.0) f.1 ∙ append_assoc a f.0 g.0), others_more n f.0 g.0 f.2 g.2)

-- what holds of each of two lists where it is the longer, holds of the longer
pub longer_cases : (xs ys : List LogEntry) (P : List LogEntry → Type 0) → (length xs < length ys → P ys) → (length ys ≤ length xs → P xs) → P (longer xs ys)
longer_cases xs ys P more less = dite (dec_le (length ys) (length xs))
    (λ le. subst (λ b. P (cond b ys xs)) (sym (let not_lt : nat_lt (length xs) (length ys) ≡ false = grind (arith, nat_tests) in not_lt)) (less le))
    (λ gt. let lt : length xs < length ys = omega arith in subst (λ b. P (cond b ys xs)) (sym (let is : nat_lt (length xs) (length ys) ≡ true = grind (arith, nat_tests) in is)) (more lt))
