-- What payloads stand for: a log that goes on from where it starts, some of its states written among its entries.
use Rattle.std.specs.Prelude.{◌≡◌, ◌≤◌, ◌⊎◌, ℕ, List, [], ◌∷◌, ◌++◌, drop, length, map, take, Option, Some, None, Ok, IsTrue}
use Rattle.sha2.specs.Sha256.{sha256}
use Rattle.cat_checks.specs.AlikeBooks.{AreSweptFrom, IsSweptFrom}
use Rattle.cat_checks.specs.Histories.{AreFrom, IsLegalFrom, book_at}
use Rattle.cat_checks.specs.Legal.{draft_may_come}
use Rattle.cat_codes.specs.Code.{whole}
use Rattle.cat_frames.specs.Bases.{checkpoint_of, draft_of, from_nothing, opened_by}
use Rattle.cat_frames.specs.Checkpoints.{checkpoint_code}
use Rattle.cat_frames.specs.Entries.{of_nobody}
use Rattle.cat_frames.specs.Standing.{may_start}
use Rattle.cat_keeper.specs.Bases.{base_of, entries_of}
use Rattle.cat_model.specs.declared.log_entry.LogEntry.{LogEntry}
use Rattle.cat_model.specs.Drafts.{OpenDraft}
use Rattle.cat_model.specs.Resuming.{IsSameState}
use Rattle.cat_model.specs.State.{State}
use Rattle.cat_model.specs.Turns.{Opened}
use Rattle.cat_state.specs.Kept.{AreReadBack, IsReadBack, spelling, spellings}
use Rattle.cat_tables.specs.Tables.{are_distinct}

-- the state that a log leads to
abbrev pub state_at : Opened → List LogEntry → State
state_at o log = (book_at o log).state

-- bytes are a checkpoint of the state that a log leads to, in which no content is twice, with the log's greatest draft number and these drafts
pub record IsCheckpointAt (o : Opened) (front : List LogEntry) (drafts : List ℕ) (base : List ℕ) : Type 0 where
  pub reads : whole (checkpoint_code sha256) base ≡ Ok (checkpoint_of (state_at o front) (draft_of o front) drafts)
  pub once : IsTrue (are_distinct (state_at o front).present)

-- The last base, where the log had come so far: none, where it goes on from nothing and has no entry; else a checkpoint of the state there, with some drafts that were open.
abbrev pub IsBaseAt : Opened → List LogEntry → Option (List ℕ) → Type 0
IsBaseAt o front None = (front ≡ []) × (o ≡ from_nothing o.state.limits o.payloads o.faults)
IsBaseAt o front (Some base) = (drafts : List ℕ) × IsCheckpointAt o front drafts base

-- an entry of the draft number may come behind a base
abbrev pub MayFollow : Opened → Option (List ℕ) → ℕ → Type 0
MayFollow o base number = (from : Opened) → opened_by o.state.limits 0 0 base ≡ Some from → IsTrue (draft_may_come from number)

-- so may one of each open draft
abbrev pub AllFollow : Opened → Option (List ℕ) → List OpenDraft → Type 0
AllFollow o base [] = Unit {0}
AllFollow o base (d ∷ drafts) = MayFollow o base d.opening.number × AllFollow o base drafts

-- The payloads' base, if there is one, is the log's state at some place, from which a log may start, and those behind it are the log's entries from there on, and are read back as these, of nobody; their drafts may come behind the base, and none is a sweep that was opened before it.
pub record StandFor (o : Opened) (log : List LogEntry) (ps : List (List ℕ)) : Type 0 where
  pub count : ℕ
  pub within : count ≤ length log
  pub base : IsBaseAt o (take count log) (base_of ps)
  pub entries : entries_of ps ≡ spellings (drop count log)
  pub read : AreReadBack (drop count log)
  pub may : IsTrue (may_start sha256 (state_at o (take count log)))
  pub comes : (from : Opened) → opened_by o.state.limits 0 0 (base_of ps) ≡ Some from → AreFrom from (drop count log)
  pub since : AreSweptFrom (state_at o (take count log)).place (drop count log)

-- an entry may stand behind payloads: its draft may come behind their base, and it is no sweep that was opened before it
pub record MayStand (o : Opened) (log : List LogEntry) (ps : List (List ℕ)) (e : LogEntry) : Type 0 where
  pub comes : MayFollow o (base_of ps) e.draft
  pub since : (stand : StandFor o log ps) → IsSweptFrom (state_at o (take stand.count log)).place e.action

-- So it was at each moment since the log was opened: each front of the payloads that has those of then stands for a front of the log, and a longer one for one that is as long or longer.
pub record StandThrough (o : Opened) (log : List LogEntry) (ps : List (List ℕ)) : Type 0 where
  pub many : o.payloads ≤ length ps
  pub reach : ℕ → ℕ
  pub within : (n : ℕ) → reach n ≤ length log
  pub rises : (a b : ℕ) → a ≤ b → reach a ≤ reach b
  pub end : reach (length ps) ≡ length log
  pub each : (n : ℕ) → o.payloads ≤ n → n ≤ length ps → StandFor o (take (reach n) log) (take n ps)

-- a payload that was in flight behind others when an append or a rebase failed, where the log had come so far: a checkpoint of the state there, from which a log may start, with some drafts that were open, or the spelling of an entry, which is read back, legal behind the log, and may stand behind the payloads
abbrev pub IsInFlight : Opened → List LogEntry → List ℕ → List (List ℕ) → Type 0
IsInFlight o log p ps = ((drafts : List ℕ) × IsCheckpointAt o log drafts p × IsTrue (may_start sha256 (state_at o log))) ⊎ ((e : LogEntry) × (p ≡ spelling e) × IsReadBack e × IsLegalFrom o (log ++ e ∷ []) × MayStand o log ps e)

-- payloads whose last one was in flight stand for the log, or for it and the entry that this one spells, which is legal there
abbrev pub StandFlown : Opened → List LogEntry → List ℕ → List (List ℕ) → Type 0
StandFlown o log p ps = StandFor o log ps ⊎ ((e : LogEntry) × (p ≡ spelling e) × IsLegalFrom o (log ++ e ∷ []) × StandFor o (log ++ e ∷ []) ps)

-- A log goes on where another stands: it starts from a state of that, with the greatest draft number until then, and its entries are those behind, of nobody.
pub record GoesOn (o : Opened) (log : List LogEntry) (from : Opened) (rest : List LogEntry) : Type 0 where
  pub count : ℕ
  pub state : IsSameState (state_at o (take count log)) from.state
  pub draft : from.draft ≡ draft_of o (take count log)
  pub entries : rest ≡ map of_nobody (drop count log)
