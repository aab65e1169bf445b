-- What the turns of a collection find and leave.
use Rattle.std.specs.Prelude.{◌≡◌, ◌≤◌, ℕ, [], length, Bool, ◌&&◌, nat_eq, Some, None, Result, Err}
use Rattle.sha2.specs.Sha256.{sha256}
use Rattle.cat_names.specs.declared.hash.Hash.{Hash}
use Rattle.cat_mark.specs.declared.roots.Roots.{Roots}
use Rattle.cat_mark.specs.Marks.{is_marked}
use Rattle.cat_mark.specs.Walked.{HaveWalked}
use Rattle.cat_mark.specs.declared.marks.Marks.{Marks}
use Rattle.cat_graph.specs.Linked.{AreLinked}
use Rattle.cat_checks.specs.Histories.{IsLegalFrom}
use Rattle.cat_core.specs.Stored.{AreKnown, IsMarked, KnowsNames, Stored}
use Rattle.cat_core.specs.Sweeps.{Drops, IsDrained, IsSweepOpening, NotSwept, Sweeps, kept_by, sweep_opening}
use Rattle.cat_core.specs.declared.sweeping.Sweep.{Sweep}
use Rattle.cat_desk.specs.Log.{Follows}
use Rattle.cat_desk.specs.Pass.{DeskId, Keeps, all_left_by, known, left_by, mark_of, number_of, seen}
use Rattle.cat_desk.specs.declared.pass.Pass.{Pass}
use Rattle.cat_model.specs.declared.cutoff.Resolved.{Resolved}
use Rattle.cat_model.specs.declared.refusal.Refusal.TheVariants as refusals
use Rattle.cat_model.specs.declared.refusal.Refused.{Refused}
use Rattle.cat_model.specs.declared.reply.Told.{Told}
use Rattle.cat_model.specs.Base.{is_among}
use Rattle.cat_model.specs.Drafts.{OpenSweep, no_names, nothing_open}
use Rattle.cat_model.specs.Mark.{Grows}
use Rattle.cat_model.specs.Past.{swept_on}
use Rattle.cat_model.specs.State.{State}
use Rattle.cat_work.specs.Answers.{AnswersAlone, NoDraftIsNew, NoFaultIsNew, journal_in}
use Rattle.cat_work.specs.Passes.{IsAlone, book_of, state_of}
use Rattle.cat_work.specs.Turns.{Turned}
use Rattle.cat_collect.specs.declared.rounds.Marking.{Marking}
use Rattle.cat_collect.specs.declared.rounds.Round.{Round}
use Rattle.cat_collect.specs.declared.rounds.Round.TheVariants as rounds
use Rattle.cat_collect.specs.Answers.{Answers, IsNewer}

-- ---- one turn

-- a turn that opened a sweep
abbrev pub OpensSweep : (K : Type 0) → DeskId → Resolved → Pass → Pass → Sweep → Roots → State → Type 0
OpensSweep K desk policy p q sweep roots view = (s : Stored K) × (s' : Stored K) × Turned desk p q s s' × IsSweepOpening (number_of p) policy s s' sweep roots view × KnowsNames s'.book.state s'.left_open.sweep

-- a turn in which none was opened
abbrev pub OpensNone : (K : Type 0) → DeskId → Pass → Pass → Refused → Type 0
OpensNone K desk p q r = (s : Stored K) × (s' : Stored K) × Turned desk p q s s' × (s' ≡ s) × NotSwept s r r.why × IsMarked s.mark s.left_open.sweep

-- a turn that asked for what was missing
abbrev pub DrainsIn : (K : Type 0) → DeskId → Pass → Pass → Roots → State → Type 0
DrainsIn K desk p q roots view = (s : Stored K) × (s' : Stored K) × Turned desk p q s s' × IsDrained s s' roots view × AreLinked s.book.state.commits × KnowsNames s'.book.state s'.left_open.sweep

-- a turn that left the store as it was found
abbrev pub LeavesIn : (K : Type 0) → DeskId → Pass → Pass → Type 0
LeavesIn K desk p q = (s : Stored K) × (s' : Stored K) × Turned desk p q s s' × (s' ≡ s)

-- a turn that settled a sweep
abbrev pub SettlesIn : (K : Type 0) → DeskId → Pass → Pass → ℕ → Result Told Refused → Type 0
SettlesIn K desk p q moment r = (s : Stored K) × (s' : Stored K) × Turned desk p q s s' × Sweeps s s.left_open.sweep moment r s'

-- a turn that dropped a sweep
abbrev pub DropsIn : (K : Type 0) → DeskId → Pass → Pass → Type 0
DropsIn K desk p q = (s : Stored K) × (s' : Stored K) × Turned desk p q s s' × Drops s s.left_open.sweep s'

-- ---- between turns

-- the sweep is all that the caller has open
pub record HasOpen (p : Pass) (sweep : Sweep) (o : OpenSweep) : Type 0 where
  pub left_is : left_by p ≡ record { drafts = []; sweep = Some o }
  pub opening_is : o.opening ≡ sweep_opening sweep
  pub caller : sweep.ticket.caller ≡ number_of p

abbrev pub IsOpenIn : Pass → Sweep → Type 0
IsOpenIn p sweep = (o : OpenSweep) × HasOpen p sweep o

-- all that it has to keep after the log that was seen was given, and is marked, with nothing else, and was walked on its commits
pub record HasMarked (desk : DeskId) (p : Pass) (o : OpenSweep) (marks : Marks) : Type 0 where
  pub drained : o.drained ≡ length (seen p)
  pub given : o.given ≡ o.names
  pub known : AreKnown (state_of desk (seen p)) o.names.commits
  pub marked : (hash : Hash) → is_marked marks.set hash ≡ is_among (kept_by (book_of desk p) o) hash
  pub walked : HaveWalked (state_of desk (seen p)).commits marks

abbrev pub Holds : DeskId → Pass → Sweep → Marks → Type 0
Holds desk p sweep marks = (o : OpenSweep) × HasOpen p sweep o × HasMarked desk p o marks

-- ---- a collection

-- roots that keep nothing
abbrev pub is_nothing : Roots → Bool
is_nothing roots = nat_eq (length roots.heads) 0 && nat_eq (length roots.hashes) 0

-- the refusal for want of memory
abbrev pub out_of_memory : Refused
out_of_memory = record { place = None; why = refusals.NoMemory }

-- where the pass was alone and nothing was open, all is as it stood but for the sweep, which was opened where it stood, and keeps nothing for a name
pub record StoodAlone (desk : DeskId) (first present : Pass) (sweep : OpenSweep) : Type 0 where
  pub seen_is : seen present ≡ seen first
  pub mark_is : mark_of present ≡ record (mark_of first) { sweep = Some sweep.opening }
  pub left_is : all_left_by present ≡ record { drafts = []; sweep = Some sweep }
  pub names_are : sweep.names ≡ no_names
  pub place_is : sweep.opening.place ≡ (state_of desk (seen first)).place
  pub up : (mark_of first).fault ≡ None

-- a collection between its turns: the pass at first and at present
pub record Going (desk : DeskId) (policy : Resolved) (first present : Pass) : Type 0 where
  pub sweep : OpenSweep
  pub left_is : left_by present ≡ record { drafts = []; sweep = Some sweep }
  pub kept : Keeps desk first present
  pub follows : Follows (number_of first) (seen first) (seen present)
  pub legal : IsLegalFrom desk.opened (seen present)
  pub caller : sweep.opening.caller ≡ number_of first
  pub policy_is : sweep.policy ≡ policy
  pub newer : IsNewer (mark_of first) sweep.opening.number
  pub known_then : known first ≤ sweep.opening.place
  pub within : sweep.opening.place ≤ (state_of desk (seen present)).place
  pub faults : NoFaultIsNew (number_of first) (mark_of first) (mark_of present)
  pub drafts : NoDraftIsNew (number_of first) (mark_of first) (mark_of present)
  pub grows : Grows (mark_of first) (mark_of present)
  pub alone : IsAlone first → all_left_by first ≡ nothing_open → StoodAlone desk first present sweep

-- what a collection has come to at the pass's last turn
pub record Comes (desk : DeskId) (policy : Resolved) (moment : ℕ) (first next : Pass) (r : Result Told Refused) : Type 0 where
  pub none : left_by next ≡ nothing_open
  pub grows : Grows (mark_of first) (mark_of next)
  pub answers : Answers desk (number_of first) policy moment (known first) (mark_of first) (mark_of next) (seen first) (seen next) r
  pub alone : IsAlone first → all_left_by first ≡ nothing_open → AnswersAlone (number_of first) (swept_on sha256 (number_of first) (book_of desk first) policy no_names moment) (book_of desk first) (book_of desk next) (mark_of first).fault (mark_of next).fault r
  pub rests : IsAlone first → all_left_by first ≡ nothing_open → all_left_by next ≡ nothing_open
  pub undrafted : NoDraftIsNew (number_of first) (mark_of first) (mark_of next)
  pub unbased : IsAlone first → all_left_by first ≡ nothing_open → journal_in (mark_of next) ≡ journal_in (mark_of first)

-- it goes on with these marks
abbrev pub GoesWith : DeskId → Resolved → Pass → Pass → Marking → Type 0
GoesWith desk policy first present marking = Holds desk present marking.sweep marking.marks × Going desk policy first present

-- what a round leaves of it
abbrev pub GoesAfter : DeskId → Resolved → Pass → Pass → Round → Type 0
GoesAfter desk policy first next rounds.Failed = (moment : ℕ) → Comes desk policy moment first next (Err out_of_memory)
GoesAfter desk policy first next (rounds.Still marking) = GoesWith desk policy first next marking
GoesAfter desk policy first next (rounds.On marking) = GoesWith desk policy first next marking
