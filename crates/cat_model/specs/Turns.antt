-- What a caller may do to a logged value in its turn.
use Rattle.std.specs.Prelude.{◌≡◌, ℕ, ◌+◌, List, [], ◌∷◌, ◌++◌, length}
use Rattle.cat_model.specs.declared.log_entry.LogEntry.{LogEntry}
use Rattle.cat_model.specs.State.{State}
use Rattle.cat_model.specs.Drafts.{Open, LeavesOthers}
use Rattle.cat_model.specs.Mark.{Mark, Later}

-- what a log starts from: a state, at its place, the last draft number that was taken until then, those below it whose drafts may still be settled, how many payloads its keeper had, and how many faults it had counted
pub record Opened : Type 0 where
  pub state : State
  pub draft : ℕ
  pub drafts : List ℕ
  pub payloads : ℕ
  pub faults : ℕ

-- the place after a log
abbrev pub place_after : Opened → List LogEntry → ℕ
place_after o log = o.state.place + length log

-- all that contracts see of a logged value at one moment; the log's oldest entry comes first
pub record Snapshot : Type 0 where
  pub opened : Opened
  pub log : List LogEntry
  pub mark : Mark
  pub left_open : Open

abbrev pub snapshot : {V : Type 0} → (V → Opened) → (V → List LogEntry) → (V → Mark) → (V → Open) → V → Snapshot
snapshot opened log mark left_open value = record { opened = opened value; log = log value; mark = mark value; left_open = left_open value }

-- all of these entries are the caller's
abbrev pub Own : ℕ → List LogEntry → Type 0
Own caller [] = Unit {0}
Own caller (x ∷ xs) = (x.caller ≡ caller) × Own caller xs

-- the log goes on, and what was added is the caller's
abbrev pub Adds : ℕ → List LogEntry → List LogEntry → Type 0
Adds caller a b = (new : List LogEntry) × (b ≡ a ++ new) × Own caller new

-- the caller acted on one in its turn, and left the other
pub record Acts (legal : Opened → List LogEntry → Type 0) (caller : ℕ) (a b : Snapshot) : Type 0 where
  pub opened : b.opened ≡ a.opened
  pub is_legal : legal b.opened b.log
  pub adds : Adds caller a.log b.log
  pub later : Later caller a.mark b.mark
  pub others : LeavesOthers caller a.left_open b.left_open
