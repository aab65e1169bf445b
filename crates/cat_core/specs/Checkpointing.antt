-- What a checkpoint of a store answers, and what it leaves.
use Rattle.std.specs.Prelude.{◌≡◌, ◌≤◌, ◌<◌, ◌+◌, ℕ, List, length, None, Some, Result, Ok, Err}
use Rattle.std.specs.Option.{option_map}
use Rattle.sha2.specs.Sha256.{sha256}
use Rattle.cat_codes.specs.Code.{whole}
use Rattle.cat_frames.specs.Bases.{checkpoint_at, checkpoint_spelling}
use Rattle.cat_frames.specs.Checkpoints.{checkpoint_code}
use Rattle.cat_keeper.specs.declared.keeper.Keeper.{Ghosts}
use Rattle.cat_model.specs.declared.limits.Quantity.{Quantity}
use Rattle.cat_model.specs.declared.limits.Quantity.TheVariants as quantities
use Rattle.cat_model.specs.declared.refusal.Refusal.{Refusal}
use Rattle.cat_model.specs.declared.refusal.Refusal.TheVariants as refusals
use Rattle.cat_model.specs.declared.refusal.Refused.{Refused}
use Rattle.cat_model.specs.declared.reply.Reply.TheVariants as replies
use Rattle.cat_model.specs.declared.reply.Told.{Told}
use Rattle.cat_model.specs.Mark.{FailedAppend}
use Rattle.cat_state.specs.Basing.{most_bytes}
use Rattle.cat_state.specs.Kept.{LeavesBase}
use Rattle.cat_core.specs.Kept.{KeepsBase}
use Rattle.cat_core.specs.Stored.{IsDownAt, IsUp, Stored, log_of}
use Rattle.cat_core.specs.Sweeps.{IsSweptSince}

-- the payload of a checkpoint of a store: its state, its log's greatest draft number, and those below it of drafts that are open
abbrev pub base_bytes : {K : Type 0} → Stored K → List ℕ
base_bytes s = checkpoint_spelling (checkpoint_at s.opened (log_of s) s.book.state s.left_open.drafts)

-- once it is the keeper's base: there is one more
abbrev pub based : {K : Type 0} → Stored K → K → Stored K
based s keeper = record s { keeper = keeper; mark = record (s.mark) { base = s.book.state.place; bases = option_map (λ (n : ℕ). n + 1) s.mark.bases } }

-- it may be made: nothing has failed, the journal's format may have bases, and no sweep is open
pub record MayBase {K : Type 0} (s : Stored K) : Type 0 where
  pub up : IsUp s
  pub newer : s.mark.format ≡ 2
  pub unswept : s.left_open.sweep ≡ None

-- what is written is read as the checkpoint of the store
abbrev pub ReadsAsMade : {K : Type 0} → Stored K → Type 0
ReadsAsMade s = whole (checkpoint_code sha256) (base_bytes s) ≡ Ok (checkpoint_at s.opened (log_of s) s.book.state s.left_open.drafts)

-- it was made: no entry, the place stays, and the log
pub record IsBased {K : Type 0} (s s' : Stored K) (told : Told) : Type 0 where
  pub may : MayBase s
  pub fits : length (base_bytes s) ≤ most_bytes
  pub reads : ReadsAsMade s
  pub told_is : told ≡ record { place = s.book.state.place; reply = replies.Checkpoint s.book.state.place }
  pub after : s' ≡ based s s'.keeper

-- it was too long
pub record IsTooLong {K : Type 0} (s s' : Stored K) (which : Quantity) (number : ℕ) : Type 0 where
  pub may : MayBase s
  pub which_is : which ≡ quantities.Checkpoint
  pub number_is : number ≡ most_bytes
  pub long : most_bytes < length (base_bytes s)
  pub after : s' ≡ record s { keeper = s'.keeper }

-- it wasn't kept
pub record IsNotBased {K : Type 0} (caller : ℕ) (s s' : Stored K) : Type 0 where
  pub may : MayBase s
  pub fits : length (base_bytes s) ≤ most_bytes
  pub reads : ReadsAsMade s
  pub fault : FailedAppend
  pub caller_is : fault.caller ≡ caller
  pub payload : fault.payload ≡ base_bytes s
  pub after : s' ≡ record s { keeper = s'.keeper; mark = record (s.mark) { fault = Some fault } }

-- a refusal at the store's place
abbrev pub IsHere : {K : Type 0} → Stored K → Refused → Type 0
IsHere s r = r.place ≡ Some s.book.state.place

-- a refusal, by its reason
abbrev pub NotBased : {K : Type 0} → ℕ → Stored K → Refused → Refusal → Stored K → Type 0
NotBased caller s r refusals.NoMemory s' = (r.place ≡ None) × (s' ≡ record s { keeper = s'.keeper })
NotBased caller s r (refusals.Down count) s' = IsHere s r × IsDownAt s count × (s' ≡ s)
NotBased caller s r refusals.OldFormat s' = IsHere s r × IsUp s × (s.mark.format ≡ 1) × (s' ≡ s)
NotBased caller s r (refusals.SweepOpen place) s' = IsHere s r × IsUp s × (s.mark.format ≡ 2) × IsSweptSince s place × (s' ≡ s)
NotBased caller s r (refusals.Limit which number) s' = IsHere s r × IsTooLong s s' which number
NotBased caller s r refusals.Fault s' = IsHere s r × IsNotBased caller s s'
NotBased caller s r why s' = ⊥

-- what a checkpoint answers and leaves
abbrev pub Checkpoints : {K : Type 0} → ℕ → Stored K → Stored K → Result Told Refused → Type 0
Checkpoints caller s s' (Ok told) = IsBased s s' told
Checkpoints caller s s' (Err r) = NotBased caller s r r.why s'

-- all that is told of one that may be made
pub record IsCheckpoint {K : Type 0} (members : Ghosts K) (caller : ℕ) (s s' : Stored K) (result : Result Told Refused) : Type 0 where
  pub checkpoints : Checkpoints caller s s' result
  pub keeps : KeepsBase members s.keeper s'.keeper s.book.state.place (base_bytes s) result
  pub crash : LeavesBase members s.keeper s'.keeper (base_bytes s)
