-- Calls that only read.
use Rattle.std.proofs.Common.{◌≡◌, ℕ, List, Option, Some, None, refl, sym, ap, ◌∙◌, subst}
use Rattle.std.specs.Prelude.{IfSome}
use Rattle.cat_io.specs.Crashes.{Told}
use Rattle.cat_keeper.specs.Moments.{followed}
use Rattle.cat_journal.specs.Reading.{OnlyReads}

pub same_told : {A : Type 0} (t t' : Option A) → Told t t' (λ a b. b ≡ a) → t' ≡ t
same_told None None same = refl
same_told None (Some b) same = absurd same
same_told (Some a) None same = absurd same
same_told (Some a) (Some b) same = ap (λ x. Some x) same

-- a fact of the bytes after a read is one of those before
pub as_before : {A : Type 0} (t t' : Option A) (P : A → Type 0) → Told t t' (λ a b. b ≡ a) → IfSome t' P → IfSome t P
as_before t t' P same fact = subst (λ x. IfSome x P) (same_told t t' same) fact

-- and one before is one after
pub as_after : {A : Type 0} (t t' : Option A) (P : A → Type 0) → Told t t' (λ a b. b ≡ a) → IfSome t P → IfSome t' P
as_after t t' P same fact = subst (λ x. IfSome x P) (sym (same_told t t' same)) fact

pub told_then : {A : Type 0} (t t' t'' : Option A) → Told t t' (λ a b. b ≡ a) → Told t' t'' (λ a b. b ≡ a) → Told t t'' (λ a b. b ≡ a)
told_then None None None one two = tt
told_then None None (Some c) one two = absurd two
told_then None (Some b) t'' one two = absurd one
told_then (Some a) None t'' one two = absurd one
told_then (Some a) (Some b) None one two = absurd two
told_then (Some a) (Some b) (Some c) one two = two ∙ one

-- one run of reads after another
pub reads_then : {D : Type 0} (told : D → Option (List ℕ)) (may_leave : D → List ℕ → Type 0) (moment : D → ℕ) (left_since : D → ℕ → List ℕ → Type 0) (old mid new : D)
    → OnlyReads told may_leave moment left_since old mid → OnlyReads told may_leave moment left_since mid new → OnlyReads told may_leave moment left_since old new
reads_then told may_leave moment left_since old mid new one two = record {
  same = told_then (told old) (told mid) (told new) one.same two.same;
  crash = λ c left. one.crash c (two.crash c left);
  time = followed moment left_since old mid new (may_leave old) (may_leave mid) (may_leave old) one.time two.time (λ c p. p) one.crash;
}
