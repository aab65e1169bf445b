-- Sweeps: what opening, draining, settling and dropping one answers, and what it leaves.
use Rattle.std.specs.Prelude.{◌≡◌, ℕ, ◌+◌, ◌-◌, min, List, [], ◌∷◌, ◌++◌, map, length, drop, Option, Some, None, is_some, Result, ◌||◌, ◌&&◌, not, IsTrue}
use Rattle.std.specs.List.{flat_map}
use Rattle.sha2.specs.Sha256.{sha256}
use Rattle.cat_names.specs.declared.hash.Hash.{Hash}
use Rattle.cat_mark.specs.declared.roots.Roots.{Roots}
use Rattle.cat_mark.specs.Marks.{is_marked, live_of}
use Rattle.cat_model.specs.declared.cutoff.Cutoff.{Cutoff}
use Rattle.cat_model.specs.declared.cutoff.Cutoff.TheVariants as cutoffs
use Rattle.cat_model.specs.declared.cutoff.Resolved.{Resolved}
use Rattle.cat_model.specs.declared.log_entry.Action.{Action}
use Rattle.cat_model.specs.declared.log_entry.Action.TheVariants as actions
use Rattle.cat_model.specs.declared.log_entry.LogEntry.{LogEntry}
use Rattle.cat_model.specs.declared.reference.Reference.{Reference}
use Rattle.cat_model.specs.declared.refusal.Refusal.{Refusal}
use Rattle.cat_model.specs.declared.refusal.Refusal.TheVariants as refusals
use Rattle.cat_model.specs.declared.refusal.Refused.{Refused}
use Rattle.cat_model.specs.declared.reply.Reply.TheVariants as replies
use Rattle.cat_model.specs.declared.reply.Told.{Told}
use Rattle.cat_model.specs.declared.sweep.Sweep as sweeps
use Rattle.cat_model.specs.Base.{is_among}
use Rattle.cat_model.specs.Book.{Book}
use Rattle.cat_model.specs.Calls.{Called}
use Rattle.cat_model.specs.Chain.{Commits}
use Rattle.cat_model.specs.Cutoffs.{cutoff_for}
use Rattle.cat_model.specs.Drafts.{Names, OpenDraft, OpenSweep, Opening}
use Rattle.cat_model.specs.Mark.{FailedAppend, Mark, last_sweep}
use Rattle.cat_model.specs.Past.{Course, course, past_of}
use Rattle.cat_model.specs.State.{State}
use Rattle.cat_model.specs.Sweeps.{hash_set, saved, since, sweep_call, sweep_of}
use Rattle.cat_checks.specs.Legal.{may_be_swept}
use Rattle.cat_frames.specs.Sweeps.{sweep_is_logged}
use Rattle.cat_tables.specs.Tables.{value_of}
use Rattle.cat_core.specs.declared.closing.Closing.{Closing}
use Rattle.cat_core.specs.declared.sweeping.Sweep.{Sweep}
use Rattle.cat_keeper.specs.declared.keeper.Keeper.{Ghosts}
use Rattle.cat_state.specs.Kept.{Leaves}
use Rattle.cat_core.specs.Drafts.{Refers}
use Rattle.cat_core.specs.Kept.{KeepsTold}
use Rattle.cat_core.specs.Noting.{names_of_drafts}
use Rattle.cat_core.specs.Stored.{IsDownAt, IsUp, Stored, log_of}
use Rattle.cat_core.specs.Sweeping.{name_in, saved_on}

-- ---- names

-- how many there are, none counted twice
abbrev pub count_of : Names → ℕ
count_of names = length (hash_set names.commits) + length (hash_set names.contents)

-- ---- what has to be kept

-- all that was live since its opening, and what names keep that drafts gave it
abbrev pub kept_by : Book → OpenSweep → List Hash
kept_by book s = saved (since s.opening.place book.state (past_of sha256 book)) book.state.commits s.policy s.names

-- the states that the entries led through which its caller was given
abbrev pub course_given : Book → OpenSweep → Course
course_given book s = course sha256 book.base (drop (length book.log - s.drained) book.log)

-- what these and the names that its caller was given keep
abbrev pub given_by : Book → OpenSweep → List Hash
given_by book s = saved (since s.opening.place (course_given book s).state (course_given book s).past) book.state.commits s.policy s.given

-- what was given comes with these roots to all that has to be kept
abbrev pub Completes : Commits → List Hash → Roots → List Hash → Type 0
Completes commits given roots all = (hash : Hash) → is_among all hash ≡ (is_among given hash || is_among (live_of commits roots) hash)

-- ---- roots

-- the head of a reference, with its cutoff
abbrev pub head_at : Resolved → Reference → Hash × Cutoff
head_at policy r = (r.head, cutoff_for policy r.name)

-- a commit alone
abbrev pub alone : Hash → Hash × Cutoff
alone hash = (hash, cutoffs.Commits 1)

-- the head that an action left, if there is one, with the cutoff for the reference that has it
abbrev pub head_by : Resolved → Action → Option Hash → Option (Hash × Cutoff)
head_by policy (actions.Call command) None = None
head_by policy (actions.Call command) (Some head) = Some (head, cutoff_for policy (name_in command))
head_by policy (actions.Sweep s) head = None

abbrev pub head_made : Resolved → LogEntry → Option (Hash × Cutoff)
head_made policy e = head_by policy e.action e.head

abbrev pub if_head : Option (Hash × Cutoff) → List (Hash × Cutoff)
if_head None = []
if_head (Some head) = head ∷ []

-- the head of a reference that was taken, with its cutoff
abbrev pub head_taken : Resolved → Option Reference → Option (Hash × Cutoff)
head_taken policy None = None
head_taken policy (Some r) = Some (head_at policy r)

-- those of what is live from references, and of what names keep
abbrev pub first_roots : Resolved → List Reference → Names → Roots
first_roots policy references names = record { heads = map (head_at policy) references ++ map alone names.commits; hashes = names.contents }

-- those of what is live from references, from those that entries took, and of what names keep
abbrev pub roots_taken : Resolved → List Reference → List (Option Reference) → Names → Roots
roots_taken policy references taken names = record { heads = (map (head_at policy) references ++ flat_map (λ t. if_head (head_taken policy t)) taken) ++ map alone names.commits; hashes = names.contents }

-- those of what entries made live, and of what names keep
abbrev pub roots_since : Resolved → List LogEntry → Names → Roots
roots_since policy entries names = record { heads = flat_map (λ e. if_head (head_made policy e)) entries ++ map alone names.commits; hashes = names.contents }

-- ---- opening

-- one more than the greatest number of a sweep, up to the greatest that there is
abbrev pub next_sweep : Mark → ℕ
next_sweep m = min (last_sweep m + 1) 18446744073709551615

abbrev pub sweep_opening : Sweep → Opening
sweep_opening s = record { number = s.ticket.number; caller = s.ticket.caller; place = s.ticket.place }

-- the sweep that is opened on a book, beside drafts that are open
abbrev pub opened_sweep : Book → List OpenDraft → Opening → Resolved → OpenSweep
opened_sweep book drafts opening policy = record { opening = opening; policy = policy; names = names_of_drafts drafts; drained = length book.log; given = names_of_drafts drafts }

abbrev pub with_sweep : {K : Type 0} → Stored K → OpenSweep → Stored K
with_sweep s o = record s { mark = record (s.mark) { sweep = Some o.opening }; left_open = record (s.left_open) { sweep = Some o } }

-- none was open, and this one is, with roots that say all that it has to keep: the heads of all references, each under its cutoff, and the names that open drafts gave
pub record IsSweepOpening {K : Type 0} (caller : ℕ) (policy : Resolved) (s s' : Stored K) (sweep : Sweep) (roots : Roots) (view : State) : Type 0 where
  pub up : IsUp s
  pub none : s.left_open.sweep ≡ None
  pub opening : sweep_opening sweep ≡ record { number = next_sweep s.mark; caller = caller; place = s.book.state.place }
  pub roots_are : Completes s.book.state.commits [] roots (kept_by s.book (opened_sweep s.book s.left_open.drafts (sweep_opening sweep) policy))
  pub roots_from : roots ≡ first_roots policy s.book.state.references (names_of_drafts s.left_open.drafts)
  pub view_is : view ≡ s.book.state
  pub after : s' ≡ with_sweep s (opened_sweep s.book s.left_open.drafts (sweep_opening sweep) policy)

-- one is open, since this place
abbrev pub IsSweptSince : {K : Type 0} → Stored K → ℕ → Type 0
IsSweptSince s place = (o : OpenSweep) × (s.left_open.sweep ≡ Some o) × (o.opening.place ≡ place)

-- why none was opened, by the reason
abbrev pub NotSwept : {K : Type 0} → Stored K → Refused → Refusal → Type 0
NotSwept s r refusals.NoMemory = r.place ≡ None
NotSwept s r (refusals.Down count) = (r.place ≡ Some s.book.state.place) × IsDownAt s count
NotSwept s r (refusals.SweepOpen place) = IsUp s × (r.place ≡ Some s.book.state.place) × IsSweptSince s place
NotSwept s r why = ⊥

-- ---- draining

-- it is open in the store
abbrev pub IsSweeping : {K : Type 0} → Stored K → Sweep → Type 0
IsSweeping s sweep = (o : OpenSweep) × (s.left_open.sweep ≡ Some o) × (o.opening ≡ sweep_opening sweep)

-- its caller was given all
abbrev pub drained_on : Book → OpenSweep → OpenSweep
drained_on book o = record o { drained = length book.log; given = o.names }

-- the names that its caller was not given yet, which stand behind those that it was
abbrev pub names_behind : OpenSweep → Names
names_behind o = record { commits = drop (length o.given.commits) o.names.commits; contents = drop (length o.given.contents) o.names.contents }

-- its caller is given what was missing: the heads that the entries made that it was not given yet, each under its cutoff, and the names behind those that it was given
pub record IsDrained {K : Type 0} (s s' : Stored K) (roots : Roots) (view : State) : Type 0 where
  pub sweep : OpenSweep
  pub is : s.left_open.sweep ≡ Some sweep
  pub roots_are : Completes s.book.state.commits (given_by s.book sweep) roots (kept_by s.book sweep)
  pub roots_from : roots ≡ roots_since sweep.policy (drop sweep.drained (log_of s)) (names_behind sweep)
  pub view_is : view ≡ s.book.state
  pub after : s' ≡ record s { left_open = record (s.left_open) { sweep = Some (drained_on s.book sweep) } }

-- ---- settling and dropping

-- the sweep as it is logged
abbrev pub sweep_in : Closing → sweeps.Sweep
sweep_in c = record { opened = c.ticket.place; policy = c.policy; commits = c.commits.items; contents = c.contents.items }

-- what is left of a sweep that is closed
pub record IsClosing (o : OpenSweep) (c : Closing) : Type 0 where
  pub opening : record { number = c.ticket.number; caller = c.ticket.caller; place = c.ticket.place } ≡ o.opening
  pub sweep : sweep_in c ≡ sweep_of o.opening.place o.policy o.names

abbrev pub Closes : Option OpenSweep → Closing → Type 0
Closes None c = ⊥
Closes (Some o) c = IsClosing o c

-- the hashes are those of the contents that neither marks nor roots keep
abbrev pub AreUnmarked : State → List Hash → Roots → List Hash → Type 0
AreUnmarked state marks roots hashes = (hash : Hash) → is_among hashes hash ≡ (is_some (value_of state.present hash) && not (is_marked marks hash || is_among (live_of state.commits roots) hash))

-- marks and roots say all that it keeps
abbrev pub AreAllMarked : Book → sweeps.Sweep → List Hash → Roots → Type 0
AreAllMarked book s marks roots = (hash : Hash) → is_among (saved_on book s) hash ≡ (is_marked marks hash || is_among (live_of book.state.commits roots) hash)

-- what is told of one that was opened at a place, by the state after it, where there were so many contents before
abbrev pub swept_told : State → ℕ → ℕ → Told
swept_told state opened before = record { place = state.place; reply = replies.Swept (record { kept = length state.present; opened = opened; removed = before - length state.present }) }

-- what a sweep of a caller brings on a book
abbrev pub sweep_on : ℕ → Book → ℕ → sweeps.Sweep → Called
sweep_on caller book moment s = sweep_call caller book.state (past_of sha256 book) book.draft moment s

-- the marks are what its caller was given, and nothing else
abbrev pub AreGiven : Book → OpenSweep → List Hash → Type 0
AreGiven book o marks = (hash : Hash) → is_marked marks hash ≡ is_among (given_by book o) hash

-- the store once it is closed
abbrev pub shut : {K : Type 0} → Stored K → OpenSweep → Stored K
shut s o = record s {
  mark = record (s.mark) { sweep = None; closed = Some (record { opening = o.opening; names = count_of o.names }) };
  left_open = record (s.left_open) { sweep = None };
}

-- what it brings
abbrev pub called_sweep : {K : Type 0} → Stored K → OpenSweep → ℕ → Called
called_sweep s o moment = sweep_call o.opening.caller s.book.state (past_of sha256 s.book) s.book.draft moment (sweep_of o.opening.place o.policy o.names)

-- what settling the open sweep at a moment answers, and what it leaves: it is closed whatever the answer
abbrev pub Sweeps : {K : Type 0} → Stored K → Option OpenSweep → ℕ → Result Told Refused → Stored K → Type 0
Sweeps s None moment result s' = ⊥
Sweeps s (Some o) moment result s' = Refers (called_sweep s o moment) o.opening.caller (shut s o) s' result

-- what dropping it leaves
abbrev pub Drops : {K : Type 0} → Stored K → Option OpenSweep → Stored K → Type 0
Drops s None s' = ⊥
Drops s (Some o) s' = s' ≡ shut s o

-- one is open
abbrev pub IsOpened : Option OpenSweep → Type 0
IsOpened sweep = (o : OpenSweep) × (sweep ≡ Some o)

-- all that is told of settling one: once an append has failed, the keeper isn't called any more
pub record IsSettledSweep {K : Type 0} (members : Ghosts K) (s s' : Stored K) (o : OpenSweep) (moment : ℕ) (result : Result Told Refused) : Type 0 where
  pub refers : Refers (called_sweep s o moment) o.opening.caller (shut s o) s' result
  pub keeps : IsUp s → KeepsTold members s.keeper s'.keeper (called_sweep s o moment).logged result
  pub crash : IsUp s → Leaves members s.keeper s'.keeper (called_sweep s o moment).logged
  pub rests : (x : FailedAppend) → s.mark.fault ≡ Some x → s'.keeper ≡ s.keeper

-- once it is closed it may be logged
abbrev pub MayBeClosed : Book → Option OpenSweep → Type 0
MayBeClosed book None = Unit {0}
MayBeClosed book (Some o) = IsTrue (may_be_swept sha256 book (sweep_of o.opening.place o.policy o.names)) × IsTrue (sweep_is_logged (sweep_of o.opening.place o.policy o.names))
