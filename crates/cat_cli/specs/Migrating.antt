-- A journal that is opened and given back with its bytes.
use Rattle.std.specs.Prelude.{◌≡◌, ◌⊎◌, ℕ, ◌<◌, List, [], length, Option, Some, IfSome}
use Rattle.cat_io.specs.Crashes.{LeavesOnly, Told}
use Rattle.cat_journal.specs.Frames.{new_journal, recovered}
use Rattle.cat_cli.specs.Journals.{IsUntouched}
use Rattle.cat_cli.specs.Surviving.{IsEarlier}

-- the bytes are those before, or where there were none, a new journal
abbrev pub IsOpenedAs : List ℕ → List ℕ → Type 0
IsOpenedAs before after = (before ≡ [] → after ≡ new_journal) × (0 < length before → after ≡ before)

-- while it is held a crash leaves what one might have left before, or bytes that stand for what the journal did
abbrev pub SparesOnly : {D : Type 0} → (D → List ℕ → Type 0) → (D → ℕ) → (D → ℕ → List ℕ → Type 0) → D → D → List ℕ → Type 0
SparesOnly may_leave moment left_since old new bytes =
    LeavesOnly moment left_since old new (λ c. IsEarlier (may_leave old) (Some bytes) c ⊎ (recovered c ≡ recovered bytes))

-- nothing was written to a disk, but a new journal where it had no bytes, and while it is held a crash leaves what one might have left before, or no more than a new journal has where there were no bytes
pub record IsLookedAt {D : Type 0} (told : D → Option (List ℕ)) (may_leave : D → List ℕ → Type 0) (moment : D → ℕ) (left_since : D → ℕ → List ℕ → Type 0) (old new : D) : Type 0 where
  pub bytes : Told (told old) (told new) IsUntouched
  pub time : IfSome (told old) (λ bytes. LeavesOnly moment left_since old new (IsEarlier (may_leave old) (Some bytes)))
