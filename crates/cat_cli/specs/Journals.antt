-- The journal that a run opens: what its disk tells, and what that stands for.
use Rattle.std.specs.Prelude.{ℕ, ◌<◌, ◌≤◌, ◌≡◌, ◌⊎◌, List, [], ◌∷◌, ◌++◌, length, Option, Some, None, IfSome, Ok, Err}
use Rattle.cat_io.specs.Causes.{Rose, raised_by}
use Rattle.cat_checks.specs.Histories.{led_on}
use Rattle.cat_core.specs.Opening.{MayStart, led_by}
use Rattle.cat_frames.specs.Bases.{opened_by}
use Rattle.cat_journal.specs.declared.fault.OpenFault.TheVariants as faults
use Rattle.cat_journal.specs.Frames.{form_gate, format_by, new_journal, payloads, recovered}
use Rattle.cat_keeper.specs.Bases.{base_of, entries_of, first_of}
use Rattle.cat_model.specs.Book.{Book}
use Rattle.cat_model.specs.Limits.{program_limits}
use Rattle.cat_model.specs.Turns.{Opened}
use Rattle.cat_cli.specs.declared.unopened.Unopened.{Unopened}
use Rattle.cat_cli.specs.declared.unopened.Unopened.TheVariants as whys

-- ---- disks at paths

-- the bytes that the disk at a path tells, where the disks tell the place and the disk its bytes
abbrev pub told_at : {D : Type 0} → (D → Option (List ℕ)) → Option (Option D) → Option (List ℕ)
told_at told None = None
told_at told (Some None) = None
told_at told (Some (Some disk)) = told disk

-- where a disk stood at a path, one stands there again
abbrev pub IsBack : {D : Type 0} → Option (Option D) → Option (Option D) → Type 0
IsBack None after = after ≡ None
IsBack (Some None) after = after ≡ Some None
IsBack {D} (Some (Some disk)) after = (again : D) × (after ≡ Some (Some again))

-- what stands at a path, as far as that is known, tells the same as this disk
abbrev pub TellsAs : {D : Type 0} → (D → Option (List ℕ)) → Option (Option D) → D → Type 0
TellsAs told None disk = Unit {0}
TellsAs told (Some None) disk = ⊥
TellsAs told (Some (Some stood)) disk = told stood ≡ told disk

-- ---- faults of the disks

-- the disk of a path was given back there, and had counted a fault
pub record DiskFailed {D : Type 0} (faults : D → ℕ) (after : Option (Option D)) : Type 0 where
  pub again : D
  pub is : IfSome after (λ place. place ≡ Some again)
  pub counted : 0 < faults again

-- the disks' count of faults rose: they refused to open the journal's path, or its disk failed
pub record DisksFell {D : Type 0} (refuses : Type 0) (faults : D → ℕ) (after : Option (Option D)) (before now : ℕ) : Type 0 where
  pub rose : Rose before now
  pub cause : refuses ⊎ DiskFailed faults after

-- the disks' count of faults rose by this one, and no further
pub record RoseBy (before now count : ℕ) : Type 0 where
  pub counted : 0 < count
  pub rose : now ≡ raised_by count before

-- ---- what a journal stands for

-- what the log starts from that a journal's payloads stand for, which is their last base, or nothing; and the book that those behind it lead to
pub record Begins (told : Option (List ℕ)) (payloads : List (List ℕ)) (o : Opened) (book : Book) : Type 0 where
  pub recovers : IfSome told (λ bytes. recovered bytes ≡ Ok payloads)
  pub total : IfSome told (λ bytes. o.payloads ≡ length payloads)
  pub opened : opened_by program_limits o.payloads o.faults (base_of payloads) ≡ Some o
  pub starts : MayStart o (base_of payloads)
  pub led : led_on o (entries_of payloads) ≡ Ok book

-- the format of a journal once it is opened: an empty file becomes a new one
abbrev pub opened_format : List ℕ → ℕ
opened_format [] = 2
opened_format (byte ∷ bytes) = format_by (form_gate (byte ∷ bytes))

-- a journal has the format that it had, or of an empty file that of a new one
abbrev pub KeepsFormat : Option (List ℕ) → Option (List ℕ) → Type 0
KeepsFormat journal left = IfSome journal (λ before. IfSome left (λ now. format_by (form_gate now) ≡ opened_format before))

-- the last base of a journal of these bytes is of this place, which is 0 where there is none
abbrev pub IsBasedAt : ℕ → List ℕ → Type 0
IsBasedAt place bytes = first_of (payloads bytes) ≡ place

-- the payload at this place is the first behind the last base that is no entry or isn't legal; or the base is of this place, and no log may start from it
pub record IsIllegal (told : Option (List ℕ)) (place : ℕ) : Type 0 where
  pub payloads : List (List ℕ)
  pub recovers : IfSome told (λ bytes. recovered bytes ≡ Ok payloads)
  pub refused : led_by program_limits payloads ≡ Err place

-- why no catalogue can be made of a journal, by its bytes
abbrev pub unopened_of : Option (List ℕ) → Unopened → Type 0
unopened_of told (whys.Version number) = IfSome told (λ bytes. recovered bytes ≡ Err (faults.Version number))
unopened_of told (whys.Damaged offset) = IfSome told (λ bytes. recovered bytes ≡ Err (faults.Damaged offset))
unopened_of told (whys.Illegal place) = IsIllegal told place
unopened_of told whys.Fault = ⊥
unopened_of told whys.NoMemory = ⊥

-- a journal stands for what it did, or had no bytes and has no more than a new one
abbrev pub StandsFor : Option (List ℕ) → Option (List ℕ) → Type 0
StandsFor told after =
    (before now : List ℕ) → told ≡ Some before → after ≡ Some now
    → (recovered now ≡ recovered before) ⊎ ((before ≡ []) × (length now ≤ length new_journal))

-- the bytes are as they were; or there were none, and they are those of a new journal
abbrev pub IsUntouched : List ℕ → List ℕ → Type 0
IsUntouched before now = (now ≡ before) ⊎ ((before ≡ []) × (now ≡ new_journal))

-- the bytes are as they were; or there were none, and they are no more than a new journal has
abbrev pub IsUnwritten : List ℕ → List ℕ → Type 0
IsUnwritten before now = (now ≡ before) ⊎ ((before ≡ []) × (length now ≤ 17))

-- the bytes are a journal of the payloads, with its header
abbrev pub IsJournalOf : List (List ℕ) → List ℕ → Type 0
IsJournalOf payloads bytes = (recovered bytes ≡ Ok payloads) × (16 < length bytes)

-- the bytes are a journal of the payloads, or where an append failed, maybe of these and its own
abbrev pub Holds : List (List ℕ) → Option (List ℕ) → List ℕ → Type 0
Holds payloads None bytes = IsJournalOf payloads bytes
Holds payloads (Some flying) bytes = IsJournalOf payloads bytes ⊎ IsJournalOf (payloads ++ flying ∷ []) bytes
