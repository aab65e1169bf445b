-- What opening a store over a journal does, and what is told where none is opened.
use Rattle.std.specs.Prelude.{ℕ, ◌≡◌, ◌≢◌, List, ◌++◌, Option, Some, None, Bool, true, false, reverse, if◌then◌else◌}
use Rattle.cat_io.specs.Crashes.{Told}
use Rattle.cat_core.specs.declared.opening.StoreFault.{StoreFault}
use Rattle.cat_core.specs.declared.opening.StoreFault.TheVariants as store_faults
use Rattle.cat_state.specs.Kept.{spellings}
use Rattle.cat_journal.specs.declared.fault.OpenFault.{OpenFault}
use Rattle.cat_journal.specs.declared.fault.OpenFault.TheVariants as faults
use Rattle.cat_keeper.specs.Bases.{entries_of}
use Rattle.cat_model.specs.Book.{Book}
use Rattle.cat_model.specs.Turns.{Opened}
use Rattle.cat_serve.specs.declared.ending.Session.{Session as End}
use Rattle.cat_serve.specs.declared.ending.Session.TheVariants as ends
use Rattle.cat_cli.specs.declared.status.Status.{Status}
use Rattle.cat_cli.specs.declared.status.Status.TheVariants as statuses
use Rattle.cat_cli.specs.declared.unopened.Unopened.{Unopened}
use Rattle.cat_cli.specs.declared.unopened.Unopened.TheVariants as whys
use Rattle.cat_cli.specs.Journals.{Begins, unopened_of}
use Rattle.cat_cli.specs.Lines.{disk_fault_line, no_memory_line, unopened_line}
use Rattle.cat_cli.specs.Runs.{IsFront, IsTold}

-- ---- why none is opened

abbrev pub by_journal : OpenFault → Unopened
by_journal faults.Fault = whys.Fault
by_journal (faults.Version number) = whys.Version number
by_journal (faults.Damaged offset) = whys.Damaged offset
by_journal faults.NoMemory = whys.NoMemory

abbrev pub by_store : StoreFault → Unopened
by_store store_faults.Fault = whys.Fault
by_store (store_faults.Illegal place) = whys.Illegal place
by_store store_faults.NoMemory = whys.NoMemory

-- it is for what the journal holds
abbrev pub is_unreadable : Unopened → Bool
is_unreadable whys.Fault = false
is_unreadable whys.NoMemory = false
is_unreadable _ = true

-- the reason is that of the bytes, if it is for what they are
abbrev pub IsReason : Option (List ℕ) → Unopened → Type 0
IsReason told why = is_unreadable why ≡ true → unopened_of told why

-- what is told of the reason, by the run's status
abbrev pub Refused : Unopened → List ℕ → Status → List ℕ → ℕ → ℕ → Type 0
Refused why written statuses.DiskFault held before now = (why ≡ whys.Fault) × (held ≡ written ++ disk_fault_line)
Refused why written statuses.WriteFault held before now = (why ≡ whys.Fault) × IsFront disk_fault_line written held before now
Refused why written statuses.Unreadable held before now = (is_unreadable why ≡ true) × IsTold (unopened_line why) written held before now
Refused why written statuses.NoMemory held before now = IsTold no_memory_line written held before now
Refused why written _ held before now = ⊥

-- the same where the sink tells what it has
abbrev pub RefusedKnown : Unopened → Option (List ℕ) → Status → Option (List ℕ) → ℕ → ℕ → Type 0
RefusedKnown why held status after before now =
    (w : List ℕ) → held ≡ Some w → (h : List ℕ) × (after ≡ Some h) × Refused why w status h before now

-- how a run ends where no journal is opened for this reason
abbrev pub EndsFor : Unopened → Status → Type 0
EndsFor why statuses.DiskFault = why ≡ whys.Fault
EndsFor why statuses.WriteFault = why ≡ whys.Fault
EndsFor why statuses.Unreadable = is_unreadable why ≡ true
EndsFor why statuses.NoMemory = why ≢ whys.Fault
EndsFor why _ = ⊥

-- what is told of a disk's fault, by the run's status
abbrev pub FaultTold : List ℕ → Status → List ℕ → ℕ → ℕ → Type 0
FaultTold written statuses.DiskFault held before now = held ≡ written ++ disk_fault_line
FaultTold written statuses.WriteFault held before now = IsFront disk_fault_line written held before now
FaultTold written _ held before now = ⊥

-- the same where the sink tells what it has
abbrev pub FaultKnown : Option (List ℕ) → Status → Option (List ℕ) → ℕ → ℕ → Type 0
FaultKnown held status after before now =
    (w : List ℕ) → held ≡ Some w → (h : List ℕ) × (after ≡ Some h) × FaultTold w status h before now

-- what is told of a journal that was opened and has this line, by the run's status
abbrev pub Counted : List ℕ → List ℕ → Status → List ℕ → ℕ → ℕ → Type 0
Counted line written statuses.Done held before now = held ≡ written ++ line
Counted line written statuses.WriteFault held before now = IsFront line written held before now
Counted line written _ held before now = ⊥

-- the same where the sink tells what it has
abbrev pub CountedKnown : List ℕ → Option (List ℕ) → Status → Option (List ℕ) → ℕ → ℕ → Type 0
CountedKnown line held status after before now =
    (w : List ℕ) → held ≡ Some w → (h : List ℕ) × (after ≡ Some h) × Counted line w status h before now

-- the status after a session, by whether the disk failed
abbrev pub status_of : End → Bool → Status
status_of ends.NoMemory failed = statuses.NoMemory
status_of ends.WriteFault failed = statuses.WriteFault
status_of ends.ReadFault failed = statuses.ReadFault
status_of ends.Closed failed = if failed then statuses.DiskFault else statuses.Done
status_of _ failed = if failed then statuses.DiskFault else statuses.Cut

-- ---- a store that is opened

-- the book is the one that the journal's payloads lead to, over a keeper that has them, where the journal tells, and is up; those behind the last base are its log
pub record IsStored (told : Option (List ℕ)) (o : Opened) (book : Book) (kept : Option (List (List ℕ))) (down : Option ℕ) : Type 0 where
  pub payloads : List (List ℕ)
  pub begins : Begins told payloads o book
  pub spelled : entries_of payloads ≡ spellings (reverse book.log)
  pub are : Told told kept (λ bytes ps. ps ≡ payloads)
  pub up : down ≡ None
