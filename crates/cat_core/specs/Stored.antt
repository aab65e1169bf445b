-- What a store holds, with what keeps its log.
use Rattle.std.specs.Prelude.{◌≡◌, ◌≤◌, ◌<◌, ℕ, ◌+◌, ◌-◌, Bool, List, [], ◌∷◌, length, take, Option, Some, None, true, IfSome, IsTrue, map, reverse}
use Rattle.std.specs.List.{list_all}
use Rattle.std.specs.Option.{option_map}
use Rattle.sha2.specs.Sha256.{sha256}
use Rattle.cat_io.specs.Causes.{Rose}
use Rattle.cat_checks.specs.Histories.{IsLegalFrom, book_at}
use Rattle.cat_checks.specs.HistoryLaws.{AreAtMost}
use Rattle.cat_checks.specs.Legal.{draft_is_new, most_patterns}
use Rattle.cat_checks.specs.Upheld.{Upholds}
use Rattle.cat_frames.specs.Sweeps.{resolved_is_logged}
use Rattle.cat_keeper.specs.declared.keeper.Keeper.{Ghosts}
use Rattle.cat_keeper.specs.Bases.{base_of}
use Rattle.cat_model.specs.declared.log_entry.LogEntry.{LogEntry}
use Rattle.cat_model.specs.Book.{Book}
use Rattle.cat_model.specs.Drafts as drafts
use Rattle.cat_model.specs.Drafts.{Open, Opening}
use Rattle.cat_model.specs.Mark as marks
use Rattle.cat_model.specs.Mark.{FailedAppend, Mark}
use Rattle.cat_model.specs.State.{State, is_known}
use Rattle.cat_model.specs.Past.{past_of}
use Rattle.cat_model.specs.Turns.{Opened, Snapshot}
use Rattle.cat_graph.specs.Linked as linked
use Rattle.cat_tables.specs.References.{heads_pass}
use Rattle.cat_state.specs.Kept.{reached}
use Rattle.cat_names.specs.declared.hash.Hash.{Hash}
use Rattle.cat_core.specs.declared.tickets.ClosedSweep.{ClosedSweep}
use Rattle.cat_core.specs.declared.tickets.Fallen.{Fallen}
use Rattle.cat_core.specs.declared.tickets.OpenDraft.{OpenDraft}
use Rattle.cat_core.specs.declared.tickets.OpenSweep.{OpenSweep}
use Rattle.cat_core.specs.declared.tickets.Start.{Start}
use Rattle.cat_core.specs.declared.tickets.Ticket.{Ticket}
use Rattle.cat_core.specs.Records.{AllFollow, IsInFlight, MayFollow, StandThrough}

-- a book, what keeps its log, the mark and what is open beside the log, and what the log starts from
pub record Stored (K : Type 0) : Type 0 where
  pub book : Book
  pub keeper : K
  pub mark : Mark
  pub left_open : Open
  pub opened : Opened

abbrev pub opened_of : {K : Type 0} → Stored K → Opened
opened_of s = s.opened

-- the log, the oldest entry first
abbrev pub log_of : {K : Type 0} → Stored K → List LogEntry
log_of s = reverse s.book.log

abbrev pub mark_of : {K : Type 0} → Stored K → Mark
mark_of s = s.mark

abbrev pub open_of : {K : Type 0} → Stored K → Open
open_of s = s.left_open

-- all that a turn is judged by
abbrev pub snap : {K : Type 0} → Stored K → Snapshot
snap s = record { opened = s.opened; log = log_of s; mark = s.mark; left_open = s.left_open }

-- no append has failed
abbrev pub IsUp : {K : Type 0} → Stored K → Type 0
IsUp s = s.mark.fault ≡ None

-- one has, at this count of faults
abbrev pub IsDownAt : {K : Type 0} → Stored K → ℕ → Type 0
IsDownAt s count = (x : FailedAppend) × (s.mark.fault ≡ Some x) × (x.count ≡ count)

abbrev pub MayBeDown : {K : Type 0} → Stored K → Option ℕ → Type 0
MayBeDown s None = IsUp s
MayBeDown s (Some count) = IsDownAt s count

-- the count of faults by the mark: the one at the log's start, or the one at which an append or a rebase failed
abbrev pub faults_at : ℕ → Option FailedAppend → ℕ
faults_at began None = began
faults_at began (Some x) = x.count

-- the mark tells of the open sweep, and its number isn't below that of the last one that was closed
abbrev pub IsMarked : Mark → Option drafts.OpenSweep → Type 0
IsMarked m None = m.sweep ≡ None
IsMarked m (Some o) = (m.sweep ≡ Some o.opening) × (marks.closed_number m.closed ≤ o.opening.number)

-- ---- how it is held

abbrev pub opening_at : Ticket → Opening
opening_at t = record { number = t.number; caller = t.caller; place = t.place }

abbrev pub draft_held : OpenDraft → drafts.OpenDraft
draft_held d = record { opening = opening_at d.ticket; names = record { commits = d.commits.items; contents = d.contents.items } }

-- the append or the rebase that failed: its payload is in flight
abbrev pub failed : Option Fallen → Option (List ℕ) → Option FailedAppend
failed (Some f) (Some payload) = Some (record { caller = f.caller; count = f.count; payload = payload })
failed (Some f) None = None
failed None payload = None

-- the count of faults by what is held of it
abbrev pub fallen_faults : ℕ → Option Fallen → ℕ
fallen_faults began None = began
fallen_faults began (Some f) = f.count

abbrev pub sweep_held : OpenSweep → drafts.OpenSweep
sweep_held s = record {
  opening = opening_at s.ticket;
  policy = s.policy;
  names = record { commits = s.commits.items; contents = s.contents.items };
  drained = s.drained;
  given = record { commits = take s.given_commits s.commits.items; contents = take s.given_contents s.contents.items };
}

abbrev pub closed_held : ClosedSweep → marks.ClosedSweep
closed_held c = record { opening = opening_at c.ticket; names = c.names }

abbrev pub held_mark : ℕ → ℕ → Option Ticket → Option Ticket → Option OpenSweep → Option ClosedSweep → Option FailedAppend → ℕ → ℕ → Option ℕ → Mark
held_mark draft drafter dropped expired sweep closed fault format base bases = record {
  fault = fault;
  sweep = option_map (λ (s : OpenSweep). opening_at s.ticket) sweep;
  closed = option_map closed_held closed;
  draft = draft;
  drafter = drafter;
  dropped = option_map opening_at dropped;
  expired = option_map opening_at expired;
  format = format;
  base = base;
  bases = bases;
}

-- what a log starts from: a state, and what is held of the log before it
abbrev pub opened_held : State → Start → Opened
opened_held state s = record { state = state; draft = s.draft; drafts = s.drafts; payloads = s.payloads; faults = s.faults }

abbrev pub held_open : List OpenDraft → Option OpenSweep → Open
held_open left_open sweep = record { drafts = map draft_held left_open; sweep = option_map sweep_held sweep }

-- ---- what holds of it

-- the keeper's payloads stand for the log, as far as they are told; its count of faults is the one at the log's start, or the one at which an append or a rebase failed, which isn't below that and is above it, or at its type's end; and it is known what is in flight then
pub record IsInStep {K : Type 0} (members : Ghosts K) (o : Opened) (book : Book) (keeper : K) (fell : Option Fallen) : Type 0 where
  pub payloads : IfSome (members.told keeper) (StandThrough o (reverse book.log))
  pub number : reached members keeper ≡ book.state.place
  pub fallen : members.down keeper ≡ option_map (λ (f : Fallen). f.count) fell
  pub level : members.faults keeper ≡ fallen_faults o.faults fell
  pub rose : IfSome fell (λ f. (o.faults ≤ f.count) × Rose o.faults f.count)
  pub flies : IfSome fell (λ f. IfSome (members.in_flight keeper) (λ p. IfSome (members.told keeper) (IsInFlight o (reverse book.log) p)))

-- behind the payloads that are told an entry of each open draft may come, and their base isn't after the open sweep
pub record GoesBehind {K : Type 0} (members : Ghosts K) (o : Opened) (left_open : List drafts.OpenDraft) (held : Option OpenSweep) (keeper : K) : Type 0 where
  pub waiting : IfSome (members.told keeper) (λ ps. AllFollow o (base_of ps) left_open)
  pub since : IfSome held (λ s. members.start keeper ≤ s.ticket.place)

-- none has the number
abbrev pub IsNumberOfNone : ℕ → List drafts.OpenDraft → Type 0
IsNumberOfNone number [] = Unit {0}
IsNumberOfNone number (x ∷ xs) = (x.opening.number ≡ number → ⊥) × IsNumberOfNone number xs

-- it has a number that was taken since the log's start, and no entry of the log has it
pub record IsWaiting (first last : ℕ) (log : List LogEntry) (x : drafts.OpenDraft) : Type 0 where
  pub above : first < x.opening.number
  pub below : x.opening.number ≤ last
  pub new : draft_is_new log x.opening.number ≡ true

-- so it is of each, and no two have one number
abbrev pub AreWaiting : ℕ → ℕ → List LogEntry → List drafts.OpenDraft → Type 0
AreWaiting first last log [] = Unit {0}
AreWaiting first last log (x ∷ xs) = IsWaiting first last log x × IsNumberOfNone x.opening.number xs × AreWaiting first last log xs

-- the number was taken since the log's start, neither an entry nor an open draft has it, and an entry of it may come behind the payloads that are told
pub record IsFree {K : Type 0} (members : Ghosts K) (number : ℕ) (s : Stored K) : Type 0 where
  pub above : s.opened.draft < number
  pub below : number ≤ s.book.draft
  pub new : draft_is_new s.book.log number ≡ true
  pub none : IsNumberOfNone number s.left_open.drafts
  pub follows : IfSome (members.told s.keeper) (λ ps. MayFollow s.opened (base_of ps) number)

-- the book goes on from the log's start, which upholds what each state does, and is what its log leads to, each entry legal where it stands; and so are the drafts
pub record IsSound (o : Opened) (book : Book) (left_open : List drafts.OpenDraft) : Type 0 where
  pub base : book.base ≡ o.state
  pub starts : Upholds sha256 o.state
  pub legal : IsLegalFrom o (reverse book.log)
  pub led : (book_at o (reverse book.log)).state ≡ book.state
  pub above : o.draft ≤ book.draft
  pub taken : AreAtMost book.draft book.log
  pub waiting : AreWaiting o.draft book.draft book.log left_open

-- ---- what holds of the open sweep

-- each of the commits is known
abbrev pub AreKnown : State → List Hash → Type 0
AreKnown state hashes = IsTrue (list_all (is_known sha256 state) hashes)

-- those that drafts name are
abbrev pub AreNamed : State → List drafts.OpenDraft → Type 0
AreNamed state [] = Unit {0}
AreNamed state (x ∷ xs) = AreKnown state x.names.commits × AreNamed state xs

-- those that the open sweep names are
abbrev pub KnowsNames : State → Option drafts.OpenSweep → Type 0
KnowsNames state None = Unit {0}
KnowsNames state (Some o) = AreKnown state o.names.commits

-- what its caller was given of its names stands before the others
pub record HasFronts (s : OpenSweep) : Type 0 where
  pub commits : s.given_commits ≤ length s.commits.items
  pub contents : s.given_contents ≤ length s.contents.items

-- each reference of the state points at a commit that is known
abbrev pub is_headed : State → Bool
is_headed state = heads_pass (linked.is_known state.commits) state.references

-- it was opened since the log's start, at a place that isn't after the one up to which its caller was given all, and may be logged; at each state since the opening the heads were known
pub record IsUnderWay (book : Book) (s : OpenSweep) : Type 0 where
  pub fronts : HasFronts s
  pub from : book.base.place ≤ s.ticket.place
  pub since : s.ticket.place ≤ book.base.place + s.drained
  pub drained : s.drained ≤ length book.log
  pub few : length s.policy.cutoffs ≤ most_patterns
  pub logged : IsTrue (resolved_is_logged s.policy)
  pub known : AreKnown book.state s.commits.items
  pub headed : IsTrue (list_all is_headed (take (book.state.place - s.ticket.place) (past_of sha256 book)))

-- the number of the last sweep that was closed; 0 where there is none
abbrev pub closed_before : Option ClosedSweep → ℕ
closed_before None = 0
closed_before (Some c) = c.ticket.number

-- what holds of the open sweep and of what drafts name: its number isn't below the last one that was closed
pub record IsSwept (book : Book) (left_open : List drafts.OpenDraft) (held : Option OpenSweep) (closed : Option ClosedSweep) : Type 0 where
  pub named : AreNamed book.state left_open
  pub sweep : IfSome held (IsUnderWay book)
  pub last : IfSome held (λ s. closed_before closed ≤ s.ticket.number)
