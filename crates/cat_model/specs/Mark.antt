-- The mark: what is kept beside the log of faults, sweeps and drafts.
use Rattle.std.specs.Prelude.{◌≡◌, ℕ, ◌≤◌, max, ◌⊎◌, List, Option, Some, None}
use Rattle.cat_model.specs.Drafts.{Opening}

-- whose append failed, of an entry or of a checkpoint, how many faults were counted then, and the payload that was to be kept
pub record FailedAppend : Type 0 where
  pub caller : ℕ
  pub count : ℕ
  pub payload : List ℕ

-- a sweep that was closed, with how many names it had
pub record ClosedSweep : Type 0 where
  pub opening : Opening
  pub names : ℕ

-- the one append that failed; the open sweep and the last closed one; the last draft number and who took it (0: the opened journal); the last draft that was dropped, and the last that was refused as Expired; the format in which the log is kept; of its checkpoints the place of the last, 0 where there is none, and how many there are, where that is told
pub record Mark : Type 0 where
  pub fault : Option FailedAppend
  pub sweep : Option Opening
  pub closed : Option ClosedSweep
  pub draft : ℕ
  pub drafter : ℕ
  pub dropped : Option Opening
  pub expired : Option Opening
  pub format : ℕ
  pub base : ℕ
  pub bases : Option ℕ

abbrev pub no_mark : Mark
no_mark = record { fault = None; sweep = None; closed = None; draft = 0; drafter = 0; dropped = None; expired = None; format = 0; base = 0; bases = None }

-- the mark of a log that was opened: its last draft number, and how it is kept
abbrev pub new_mark : ℕ → ℕ → ℕ → Option ℕ → Mark
new_mark draft format base bases = record no_mark { draft = draft; format = format; base = base; bases = bases }

abbrev pub open_number : Option Opening → ℕ
open_number None = 0
open_number (Some o) = o.number

abbrev pub closed_number : Option ClosedSweep → ℕ
closed_number None = 0
closed_number (Some s) = s.opening.number

-- the greatest number of a sweep in a mark, 0 where there is none
abbrev pub last_sweep : Mark → ℕ
last_sweep m = max (open_number m.sweep) (closed_number m.closed)

-- what is true of a mark and any later one: a fault is kept, and so is the format, the last numbers don't fall, and a last draft number that stays keeps its caller
pub record Grows (a b : Mark) : Type 0 where
  pub fault : (x : FailedAppend) → a.fault ≡ Some x → b.fault ≡ Some x
  pub draft : a.draft ≤ b.draft
  pub drafter : a.draft ≡ b.draft → a.drafter ≡ b.drafter
  pub sweep : last_sweep a ≤ last_sweep b
  pub format : a.format ≡ b.format

-- what a turn of a caller makes of a mark: a fault, a last draft number or a closed sweep that is new is the caller's
pub record Later (caller : ℕ) (a b : Mark) : Type 0 where
  pub grows : Grows a b
  pub new_fault : (x : FailedAppend) → b.fault ≡ Some x → (a.fault ≡ Some x) ⊎ (x.caller ≡ caller)
  pub new_draft : (a.draft ≡ b.draft) ⊎ (b.drafter ≡ caller)
  pub new_closed : (x : ClosedSweep) → b.closed ≡ Some x → (a.closed ≡ Some x) ⊎ (x.opening.caller ≡ caller)
