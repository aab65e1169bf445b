-- What a checkpoint on a pass answers.
use Rattle.std.specs.Prelude.{◌≡◌, ◌≢◌, ◌≤◌, ◌<◌, ◌+◌, ℕ, List, length, Option, Some, None, Result, Ok, Err}
use Rattle.std.specs.Option.{option_map}
use Rattle.cat_desk.specs.Log.{Follows}
use Rattle.cat_desk.specs.Pass.{DeskId, all_left_by, mark_of, number_of, seen}
use Rattle.cat_desk.specs.declared.pass.Pass.{Pass}
use Rattle.cat_frames.specs.Bases.{checkpoint_at, checkpoint_spelling}
use Rattle.cat_model.specs.declared.limits.Quantity.{Quantity}
use Rattle.cat_model.specs.declared.limits.Quantity.TheVariants as quantities
use Rattle.cat_model.specs.declared.log_entry.LogEntry.{LogEntry}
use Rattle.cat_model.specs.declared.refusal.Refusal.{Refusal}
use Rattle.cat_model.specs.declared.refusal.Refusal.TheVariants as refusals
use Rattle.cat_model.specs.declared.refusal.Refused.{Refused}
use Rattle.cat_model.specs.declared.reply.Reply.TheVariants as replies
use Rattle.cat_model.specs.declared.reply.Told.{Told}
use Rattle.cat_model.specs.Drafts.{OpenDraft, Opening, nothing_open}
use Rattle.cat_model.specs.Mark.{FailedAppend, Mark}
use Rattle.cat_state.specs.Basing.{most_bytes}
use Rattle.cat_work.specs.Answers.{IsAt, IsDown, NoFaultIsNew}
use Rattle.cat_work.specs.Passes.{IsAlone, book_of, state_of}

-- the payload of a checkpoint after a log of the desk, beside drafts that are open
abbrev pub base_after : DeskId → List LogEntry → List OpenDraft → List ℕ
base_after desk log drafts = checkpoint_spelling (checkpoint_at desk.opened log (state_of desk log) drafts)

-- the mark tells that one may be made: the journal's format may have bases, and no sweep is open
pub record MayBase (m : Mark) : Type 0 where
  pub newer : m.format ≡ 2
  pub unswept : m.sweep ≡ None

-- one was made: the base is at the place that is told, which is that after this log
pub record IsBased (desk : DeskId) (after : Mark) (m : List LogEntry) (bytes : List ℕ) (told : Told) : Type 0 where
  pub up : after.fault ≡ None
  pub may : MayBase after
  pub fits : length bytes ≤ most_bytes
  pub place : told.place ≡ (state_of desk m).place
  pub base : after.base ≡ told.place
  pub reply : told.reply ≡ replies.Checkpoint told.place

-- the journal has the format without bases
pub record IsOld (after : Mark) : Type 0 where
  pub up : after.fault ≡ None
  pub older : after.format ≡ 1

-- a sweep of another caller is open that was opened at this place
pub record IsSweepOpen (n opened : ℕ) (after : Mark) : Type 0 where
  pub up : after.fault ≡ None
  pub newer : after.format ≡ 2
  pub opening : Opening
  pub is : after.sweep ≡ Some opening
  pub place : opening.place ≡ opened
  pub others : opening.caller ≢ n

-- it would be too long
pub record IsTooLong (after : Mark) (bytes : List ℕ) (which : Quantity) (number : ℕ) : Type 0 where
  pub up : after.fault ≡ None
  pub may : MayBase after
  pub which_is : which ≡ quantities.Checkpoint
  pub number_is : number ≡ most_bytes
  pub long : most_bytes < length bytes

-- it might be made, and wasn't kept
pub record Falls (n : ℕ) (before after : Mark) (bytes : List ℕ) : Type 0 where
  pub may : MayBase after
  pub fits : length bytes ≤ most_bytes
  pub fault : FailedAppend
  pub is : after.fault ≡ Some fault
  pub caller_is : fault.caller ≡ n
  pub new : before.fault ≡ Some fault → ⊥
  pub payload : fault.payload ≡ bytes

-- a refusal, by its reason
abbrev pub Causes : DeskId → ℕ → Mark → Mark → List LogEntry → List ℕ → Option ℕ → Refusal → Type 0
Causes desk n before after m bytes place refusals.NoMemory = (place ≡ None) × NoFaultIsNew n before after
Causes desk n before after m bytes place (refusals.Down count) = IsAt desk m place × IsDown n count before after
Causes desk n before after m bytes place refusals.OldFormat = IsAt desk m place × IsOld after
Causes desk n before after m bytes place (refusals.SweepOpen opened) = IsAt desk m place × IsSweepOpen n opened after
Causes desk n before after m bytes place (refusals.Limit which number) = IsAt desk m place × IsTooLong after bytes which number
Causes desk n before after m bytes place refusals.Fault = IsAt desk m place × Falls n before after bytes
Causes desk n before after m bytes place why = ⊥

-- what a checkpoint answers on a pass with number n that held the mark before, and has then seen m and holds the mark after, where these drafts are open
abbrev pub Answers : DeskId → ℕ → Mark → Mark → List LogEntry → List OpenDraft → Result Told Refused → Type 0
Answers desk n before after m drafts (Ok told) = IsBased desk after m (base_after desk m drafts) told
Answers desk n before after m drafts (Err refused) = Causes desk n before after m (base_after desk m drafts) refused.place refused.why

-- what it leaves of a mark, where nobody else had a turn: one that was made is the last checkpoint, and there is one more; the fault of one that wasn't kept is the one; and each other leaves the mark as it was
abbrev pub SparesMark : Mark → Mark → Refusal → Type 0
SparesMark before after refusals.Fault = after ≡ record before { fault = after.fault }
SparesMark before after why = after ≡ before

abbrev pub LeavesMark : Mark → Mark → Result Told Refused → Type 0
LeavesMark before after (Ok told) = after ≡ record before { base = told.place; bases = option_map (λ (n : ℕ). n + 1) before.bases }
LeavesMark before after (Err refused) = SparesMark before after refused.why

-- it isn't refused for a sweep
abbrev pub IsNoSweep : Refusal → Type 0
IsNoSweep (refusals.SweepOpen opened) = ⊥
IsNoSweep why = Unit {0}

abbrev pub IsUnswept : Result Told Refused → Type 0
IsUnswept (Ok told) = Unit {0}
IsUnswept (Err refused) = IsNoSweep refused.why

-- a checkpoint on a pass: no entry of the caller, and on the only pass of its desk the book stays, and the mark but for what it tells of it; and where nothing is open there, no sweep refuses it
pub record ChecksTo (desk : DeskId) (p q : Pass) (r : Result Told Refused) : Type 0 where
  pub follows : Follows (number_of p) (seen p) (seen q)
  pub answers : Answers desk (number_of p) (mark_of p) (mark_of q) (seen q) (all_left_by q).drafts r
  pub book : IsAlone p → book_of desk q ≡ book_of desk p
  pub left : IsAlone p → all_left_by q ≡ all_left_by p
  pub mark : IsAlone p → LeavesMark (mark_of p) (mark_of q) r
  pub unswept : IsAlone p → all_left_by p ≡ nothing_open → IsUnswept r
