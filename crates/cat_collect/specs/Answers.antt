-- What a collection on a pass answers.
use Rattle.std.specs.Prelude.{◌≡◌, ◌≢◌, ◌<◌, ◌≤◌, ◌⊎◌, ℕ, ◌+◌, List, [], ◌∷◌, ◌++◌, length, reverse, Option, Some, None, Result, Ok, Err}
use Rattle.sha2.specs.Sha256.{sha256}
use Rattle.cat_desk.specs.Log.{Follows}
use Rattle.cat_desk.specs.Pass.{DeskId, all_left_by, known, mark_of, number_of, seen}
use Rattle.cat_desk.specs.declared.pass.Pass.{Pass}
use Rattle.cat_io.specs.Clocks.{Ticks}
use Rattle.cat_model.specs.declared.cutoff.Resolved.{Resolved}
use Rattle.cat_model.specs.declared.log_entry.LogEntry.{LogEntry}
use Rattle.cat_model.specs.declared.refusal.Refusal.{Refusal}
use Rattle.cat_model.specs.declared.refusal.Refusal.TheVariants as refusals
use Rattle.cat_model.specs.declared.refusal.Refused.{Refused}
use Rattle.cat_model.specs.declared.reply.Reply.{Reply}
use Rattle.cat_model.specs.declared.reply.Told.{Told}
use Rattle.cat_model.specs.declared.sweep.Sweep.{Sweep}
use Rattle.cat_model.specs.Drafts.{Opening, no_names, nothing_open}
use Rattle.cat_model.specs.Mark.{FailedAppend, Mark, last_sweep}
use Rattle.cat_model.specs.Past.{course, swept_on}
use Rattle.cat_model.specs.State.{State}
use Rattle.cat_model.specs.Sweeps.{step_sweep, sweep_entry}
use Rattle.cat_policy.specs.declared.policy.Policy.{Policy}
use Rattle.cat_policy.specs.Policies.{resolved}
use Rattle.cat_state.specs.Kept.{spelling}
use Rattle.cat_work.specs.Answers.{AnswersAlone, IsAt, IsDown, NoDraftIsNew, NoFaultIsNew, journal_in}
use Rattle.cat_work.specs.Passes.{IsAlone, book_of, state_of}

-- ---- sweeps

-- the states before the one that a log of the desk leads to, the newest first
abbrev pub past_at : DeskId → List LogEntry → List State
past_at desk log = (course sha256 desk.opened.state (reverse log)).past

-- what a sweep comes to after a log of the desk
abbrev pub step_at : DeskId → List LogEntry → Sweep → Result (State × Reply) Refusal
step_at desk log sweep = step_sweep (state_of desk log) (past_at desk log) sweep

-- the number is above that of each sweep that the mark before tells of, or the greatest that there is
abbrev pub IsNewer : Mark → ℕ → Type 0
IsNewer before number = (last_sweep before < number) ⊎ (number ≡ 18446744073709551615)

-- the mark after tells of it as the sweep that its caller closed last, which was opened since the mark before
abbrev pub IsClosedBy : ℕ → Sweep → Mark → Mark → Type 0
IsClosedBy n sweep before after = (number : ℕ) × IsNewer before number × (after.closed ≡ Some (record { opening = record { number = number; caller = n; place = sweep.opened }; names = length sweep.commits + length sweep.contents }))

-- it has the policy, was opened since the mark before, at a place that is no less than was known and not behind this log, and was closed
pub record IsSweepOf (desk : DeskId) (n : ℕ) (policy : Resolved) (k : ℕ) (before after : Mark) (log : List LogEntry) (sweep : Sweep) : Type 0 where
  pub policy_is : sweep.policy ≡ policy
  pub known : k ≤ sweep.opened
  pub within : sweep.opened ≤ (state_of desk log).place
  pub closed : IsClosedBy n sweep before after

-- ---- accepted

-- its entry is the last, and no append has failed
pub record Collects (desk : DeskId) (n : ℕ) (policy : Resolved) (moment k : ℕ) (before after : Mark) (l : List LogEntry) (told : Told) (m : List LogEntry) : Type 0 where
  pub up : after.fault ≡ None
  pub earlier : List LogEntry
  pub sweep : Sweep
  pub follows : Follows n l earlier
  pub log : m ≡ earlier ++ sweep_entry n (state_of desk m).place moment sweep ∷ []
  pub sweep_is : IsSweepOf desk n policy k before after earlier sweep
  pub place : told.place ≡ (state_of desk m).place
  pub reply : step_at desk earlier sweep ≡ Ok (state_of desk m, told.reply)

-- ---- refused

-- a sweep of another caller is open that was opened at this place, and no append has failed
pub record IsSweepOpen (n opened : ℕ) (after : Mark) : Type 0 where
  pub up : after.fault ≡ None
  pub opening : Opening
  pub is : after.sweep ≡ Some opening
  pub place : opening.place ≡ opened
  pub others : opening.caller ≢ n

-- it was accepted, and the append of its entry failed
pub record Falls (desk : DeskId) (n : ℕ) (policy : Resolved) (moment k : ℕ) (before after : Mark) (m : List LogEntry) : Type 0 where
  pub fault : FailedAppend
  pub is : after.fault ≡ Some fault
  pub caller_is : fault.caller ≡ n
  pub new : before.fault ≡ Some fault → ⊥
  pub sweep : Sweep
  pub sweep_is : IsSweepOf desk n policy k before after m sweep
  pub next : State
  pub reply : Reply
  pub accepted : step_at desk m sweep ≡ Ok (next, reply)
  pub payload : fault.payload ≡ spelling (sweep_entry n next.place moment sweep)

-- the rules refuse it after that log, and no append has failed
pub record IsRuledOut (desk : DeskId) (n : ℕ) (policy : Resolved) (k : ℕ) (before after : Mark) (m : List LogEntry) (why : Refusal) : Type 0 where
  pub up : after.fault ≡ None
  pub sweep : Sweep
  pub sweep_is : IsSweepOf desk n policy k before after m sweep
  pub is : step_at desk m sweep ≡ Err why

-- a refusal, by its reason
abbrev pub Causes : DeskId → ℕ → Resolved → ℕ → ℕ → Mark → Mark → List LogEntry → Option ℕ → Refusal → Type 0
Causes desk n policy moment k before after m place refusals.NoMemory = (place ≡ None) × NoFaultIsNew n before after
Causes desk n policy moment k before after m place (refusals.Down count) = IsAt desk m place × IsDown n count before after
Causes desk n policy moment k before after m place refusals.Fault = IsAt desk m place × Falls desk n policy moment k before after m
Causes desk n policy moment k before after m place (refusals.SweepOpen opened) = IsAt desk m place × IsSweepOpen n opened after
Causes desk n policy moment k before after m place (refusals.Limit which number) = IsAt desk m place × IsRuledOut desk n policy k before after m (refusals.Limit which number)
Causes desk n policy moment k before after m place why = ⊥

-- ---- answers

-- what a collection at a moment answers on a pass with number n that had seen l, knew of the place k and held the mark before, and has then seen m and holds the mark after
abbrev pub Answers : DeskId → ℕ → Resolved → ℕ → ℕ → Mark → Mark → List LogEntry → List LogEntry → Result Told Refused → Type 0
Answers desk n policy moment k before after l m (Ok told) = Collects desk n policy moment k before after l told m
Answers desk n policy moment k before after l m (Err refused) = Follows n l m × Causes desk n policy moment k before after m refused.place refused.why

-- ---- a collection

-- what a collection on a pass answers, at the moment of one reading of the clock, whatever others do; and on the only pass of its desk, where nothing is open, it is the model's sweep on the pass's book, with no names, unless memory runs out or an append fails, and nothing is open after it, and no checkpoint was made; it opens no draft
abbrev pub CollectsTo : DeskId → Policy → Option (ℕ → ℕ) → Option (ℕ → ℕ) → Pass → Pass → Result Told Refused → Type 0
CollectsTo desk policy ahead ahead' p q result =
    (moment : ℕ) × Ticks ahead ahead' moment
    × Answers desk (number_of p) (resolved moment policy) moment (known p) (mark_of p) (mark_of q) (seen p) (seen q) result
    × (IsAlone p → all_left_by p ≡ nothing_open → AnswersAlone (number_of p) (swept_on sha256 (number_of p) (book_of desk p) (resolved moment policy) no_names moment) (book_of desk p) (book_of desk q) (mark_of p).fault (mark_of q).fault result)
    × (IsAlone p → all_left_by p ≡ nothing_open → all_left_by q ≡ nothing_open)
    × NoDraftIsNew (number_of p) (mark_of p) (mark_of q)
    × (IsAlone p → all_left_by p ≡ nothing_open → journal_in (mark_of q) ≡ journal_in (mark_of p))
