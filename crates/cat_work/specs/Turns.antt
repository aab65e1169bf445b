-- What the turns of a call find and leave.
use Rattle.std.specs.Prelude.{◌≡◌, ◌⊎◌, ◌<◌, ◌≤◌, ℕ, ◌+◌, List, [], ◌∷◌, ◌++◌, length, None, Some, Ok, Err, Result, false, vec_capacity}
use Rattle.sha2.specs.Sha256.{sha256}
use Rattle.cat_names.specs.declared.hash.Hash.{Hash}
use Rattle.cat_decisions.specs.declared.building.Built.{Built}
use Rattle.cat_decisions.specs.Builds.{HasHead, IsBuilt, IsGivenBy}
use Rattle.cat_core.specs.Drafts.{IsMoved, IsOpening, NotOpened, Settles, command_in, dropping, may_open, open_draft_of}
use Rattle.cat_core.specs.Gone.{TellsGone}
use Rattle.cat_core.specs.Stored as stored
use Rattle.cat_core.specs.Stored.{Stored, log_of, opened_of}
use Rattle.cat_core.specs.declared.draft.Draft.{Draft}
use Rattle.cat_core.specs.declared.draft.Settled.{Settled}
use Rattle.cat_core.specs.declared.draft.Settled.TheVariants as settled
use Rattle.cat_desk.specs.Log.{Follows}
use Rattle.cat_desk.specs.Marks.{Linked}
use Rattle.cat_desk.specs.Pass.{DeskId, Keeps, all_left_by, known, left_by, mark_of, number_of, seen}
use Rattle.cat_desk.specs.declared.pass.Pass.{Pass}
use Rattle.cat_model.specs.declared.command.Command.{Command}
use Rattle.cat_model.specs.declared.command.Command.TheVariants as commands
use Rattle.cat_model.specs.declared.log_entry.LogEntry.{LogEntry}
use Rattle.cat_model.specs.declared.refusal.Refusal.TheVariants as refusals
use Rattle.cat_model.specs.declared.refusal.Refused.{Refused}
use Rattle.cat_model.specs.declared.reply.Told.{Told}
use Rattle.cat_model.specs.Book.{call_on}
use Rattle.cat_model.specs.Drafts.{StaysOpen, nothing_open, open_of}
use Rattle.cat_model.specs.Mark.{Grows}
use Rattle.cat_model.specs.State.{State}
use Rattle.cat_model.specs.Step.{opening, opens_draft}
use Rattle.cat_work.specs.declared.trying.Tried.{Tried}
use Rattle.cat_work.specs.declared.trying.Tried.TheVariants.{Ended, On}
use Rattle.cat_work.specs.declared.trying.Trying.{Trying}
use Rattle.cat_work.specs.Answers.{Answers, AnswersAlone, AreHeadsAt, NoDraftIsNew, NoFaultIsNew, Rises, first_place, rests_in}
use Rattle.cat_work.specs.Passes.{IsAlone, book_of, state_of}

-- ---- kinds of calls

abbrev pub IsCommit : Command → Type 0
IsCommit (commands.Commit c) = Unit {0}
IsCommit _ = ⊥

abbrev pub IsMerge : Command → Type 0
IsMerge (commands.Merge m) = Unit {0}
IsMerge _ = ⊥

abbrev pub IsTransplant : Command → Type 0
IsTransplant (commands.Transplant t) = Unit {0}
IsTransplant _ = ⊥

-- ---- one turn

-- a pass stood so before its turn and so after it, in which it found the one store and left the other
pub record Turned {K : Type 0} (desk : DeskId) (p q : Pass) (s s' : Stored K) : Type 0 where
  pub opened : opened_of s ≡ desk.opened
  pub follows : Follows (number_of p) (seen p) (log_of s)
  pub linked : Linked (number_of p) (mark_of p) s.mark
  pub own : StaysOpen (left_by p) (open_of (number_of p) (stored.open_of s))
  pub alone : IsAlone p → (log_of s ≡ seen p) × (s.mark ≡ mark_of p) × (s.left_open ≡ all_left_by p)
  pub led : state_of desk (log_of s) ≡ s.book.state
  pub draft : s.mark.draft ≡ s.book.draft
  pub base : s.book.base ≡ desk.opened.state
  pub led_on : state_of desk (log_of s') ≡ s'.book.state
  pub draft_on : s'.mark.draft ≡ s'.book.draft
  pub base_on : s'.book.base ≡ desk.opened.state
  pub seen_is : seen q ≡ log_of s'
  pub mark_is : mark_of q ≡ s'.mark
  pub grew : Grows s.mark s'.mark
  pub left : left_by q ≡ open_of (number_of p) (stored.open_of s')
  pub all_left : all_left_by q ≡ s'.left_open

-- a turn that opened a draft
abbrev pub Opens : (K : Type 0) → DeskId → Command → Pass → Pass → Draft → State → Type 0
Opens K desk c p q d view = (s : Stored K) × (s' : Stored K) × Turned desk p q s s' × IsOpening (number_of p) c s s' d view

-- a turn in which none was opened
abbrev pub OpensNone : (K : Type 0) → DeskId → Command → Pass → Pass → Refused → Type 0
OpensNone K desk c p q r = (s : Stored K) × (s' : Stored K) × Turned desk p q s s' × (s' ≡ s) × NotOpened s c r r.why

-- what settling a draft answers and leaves, and what it tells of contents that are gone
abbrev pub SettlesAndTells : {K : Type 0} → Stored K → Draft → Built → ℕ → Settled → Stored K → Type 0
SettlesAndTells s d built moment result s' = Settles s d built moment result s' × TellsGone s d built.head result

-- a turn that settled a draft
abbrev pub SettlesIn : (K : Type 0) → DeskId → Pass → Pass → Draft → Built → ℕ → Settled → Type 0
SettlesIn K desk p q d built moment result = (s : Stored K) × (s' : Stored K) × Turned desk p q s s' × SettlesAndTells s d built moment result s'

-- a turn that dropped a draft
abbrev pub DropsIn : (K : Type 0) → DeskId → Pass → Pass → Draft → Type 0
DropsIn K desk p q d = (s : Stored K) × (s' : Stored K) × Turned desk p q s s' × (s' ≡ dropping s d)

-- the refusal for want of memory
abbrev pub out_of_memory : Refused
out_of_memory = record { place = None; why = refusals.NoMemory }

-- ---- attempts

-- the heads that were built on so far, the last of which is the branch's after the log
pub record Trail (desk : DeskId) (c : Command) (log : List LogEntry) (first : ℕ) (pairs : List (ℕ × Hash)) : Type 0 where
  pub front : List (ℕ × Hash)
  pub head : Hash
  pub last : pairs ≡ front ++ ((state_of desk log).place, head) ∷ []
  pub has : HasHead (state_of desk log) c head
  pub rises : Rises pairs
  pub at : AreHeadsAt desk c log pairs
  pub begins : first_place pairs ≡ first

-- a draft that is open and its caller's only one, the view to build it on, and the heads that were built on
pub record Tries (desk : DeskId) (p : Pass) (d : Draft) (view : State) (pairs : List (ℕ × Hash)) : Type 0 where
  pub left_is : left_by p ≡ record { drafts = open_draft_of d ∷ []; sweep = None }
  pub caller : d.caller ≡ number_of p
  pub given : IsGivenBy d.number d.call
  pub view_is : view ≡ state_of desk (seen p)
  pub passes : opening sha256 view (command_in d) ≡ Ok tt
  pub trail : Trail desk (command_in d) (seen p) d.place pairs

-- what was built on a view was settled
abbrev pub SettlesBuilt : {K : Type 0} → Stored K → Draft → State → ℕ → Settled → Stored K → Type 0
SettlesBuilt s d view moment result s' = (built : Built) × IsBuilt view d.call built × SettlesAndTells s d built moment result s'

-- the draft was given up for want of memory
abbrev pub GivesUp : {K : Type 0} → Stored K → Draft → Refused → Stored K → Type 0
GivesUp s d r s' = (r ≡ out_of_memory) × (s' ≡ dropping s d)

-- an attempt that ended the call
abbrev pub Ends : {K : Type 0} → Stored K → Draft → State → ℕ → Result Told Refused → Stored K → Type 0
Ends s d view moment (Ok told) s' = SettlesBuilt s d view moment (settled.Done told) s'
Ends s d view moment (Err r) s' = SettlesBuilt s d view moment (settled.Refused r) s' ⊎ GivesUp s d r s'

-- an attempt that found the head moved
pub record Moves {K : Type 0} (s : Stored K) (d : Draft) (view : State) (pairs : List (ℕ × Hash)) (e : Draft) (next : State) (more : List (ℕ × Hash)) (s' : Stored K) : Type 0 where
  pub built : Built
  pub is_built : IsBuilt view d.call built
  pub moved : IsMoved s d built e next s'
  pub head : Hash
  pub pairs_are : more ≡ pairs ++ (next.place, head) ∷ []
  pub has : HasHead next (command_in e) head

-- what an attempt that isn't the last ends in
abbrev pub TriesOn : (K : Type 0) → DeskId → Pass → Pass → ℕ → Trying → Tried → Type 0
TriesOn K desk p q moment t (Ended r) = (s : Stored K) × (s' : Stored K) × Turned desk p q s s' × Ends s t.draft t.view moment r s'
TriesOn K desk p q moment t (On u) = (s : Stored K) × (s' : Stored K) × Turned desk p q s s' × Moves s t.draft t.view t.pairs.items u.draft u.view u.pairs.items s' × (vec_capacity t.pairs ≤ vec_capacity u.pairs)

-- ---- the last attempt

-- the head has moved again, and the draft was dropped
pub record IsSpent {K : Type 0} (s : Stored K) (d : Draft) (built : Built) (pairs : List (ℕ × Hash)) (r : Refused) (s' : Stored K) : Type 0 where
  pub view : State
  pub moved : IsMoved s d built d view s
  pub head : Hash
  pub more : List (ℕ × Hash)
  pub is : r ≡ record { place = Some view.place; why = refusals.RetriesSpent more }
  pub pairs_are : more ≡ pairs ++ (view.place, head) ∷ []
  pub has : HasHead view (command_in d) head
  pub after : s' ≡ dropping s d

-- a draft was settled, or dropped where the head has moved
abbrev pub SettlesLast : {K : Type 0} → Stored K → Draft → Built → List (ℕ × Hash) → ℕ → Result Told Refused → Stored K → Type 0
SettlesLast s d built pairs moment (Ok told) s' = SettlesAndTells s d built moment (settled.Done told) s'
SettlesLast s d built pairs moment (Err r) s' = SettlesAndTells s d built moment (settled.Refused r) s' ⊎ IsSpent s d built pairs r s'

-- the last attempt
abbrev pub EndsLast : {K : Type 0} → Stored K → Draft → State → List (ℕ × Hash) → ℕ → Result Told Refused → Stored K → Type 0
EndsLast s d view pairs moment (Ok told) s' = SettlesBuilt s d view moment (settled.Done told) s'
EndsLast s d view pairs moment (Err r) s' = SettlesBuilt s d view moment (settled.Refused r) s' ⊎ ((built : Built) × IsBuilt view d.call built × IsSpent s d built pairs r s') ⊎ GivesUp s d r s'

abbrev pub Finishes : (K : Type 0) → DeskId → Pass → Pass → ℕ → Trying → Result Told Refused → Type 0
Finishes K desk p q moment t r = (s : Stored K) × (s' : Stored K) × Turned desk p q s s' × EndsLast s t.draft t.view t.pairs.items moment r s'

-- ---- a call

-- where the pass was alone, all is as it stood but for the draft, which was opened where it stood
pub record StoodAlone (desk : DeskId) (c : Command) (first present : Pass) (number place : ℕ) : Type 0 where
  pub seen_is : seen present ≡ seen first
  pub mark_is : mark_of present ≡ record (mark_of first) { draft = number; drafter = number_of first }
  pub number_is : number ≡ (mark_of first).draft + 1
  pub place_is : place ≡ (state_of desk (seen first)).place
  pub up : (mark_of first).fault ≡ None
  pub passes : may_open (book_of desk first) c ≡ Ok tt

-- a call between its attempts: the pass at first and at present, and what is tried
pub record Going (desk : DeskId) (c : Command) (first present : Pass) (t : Trying) (attempts number : ℕ) : Type 0 where
  pub kept : Keeps desk first present
  pub follows : Follows (number_of first) (seen first) (seen present)
  pub tries : Tries desk present t.draft t.view t.pairs.items
  pub command_is : command_in t.draft ≡ c
  pub newer : (mark_of first).draft < t.draft.number
  pub within : t.draft.number ≤ desk.opened.state.limits.drafts
  pub known_then : known first ≤ t.draft.place
  pub count : length t.pairs.items ≡ number
  pub room : attempts + 1 ≤ vec_capacity t.pairs
  pub faults : NoFaultIsNew (number_of first) (mark_of first) (mark_of present)
  pub grows : Grows (mark_of first) (mark_of present)
  pub alone : IsAlone first → StoodAlone desk c first present t.draft.number t.draft.place
  pub rests : IsAlone first → all_left_by first ≡ nothing_open → all_left_by present ≡ record { drafts = open_draft_of t.draft ∷ []; sweep = None }

-- the first turn of a call, and the head that is built on first
pub record Begins (K : Type 0) (desk : DeskId) (c : Command) (p q : Pass) (t : Trying) : Type 0 where
  pub opens : Opens K desk c p q t.draft t.view
  pub head : Hash
  pub pairs_are : t.pairs.items ≡ (t.view.place, head) ∷ []
  pub has : HasHead t.view c head

-- no draft was opened: without a turn, or in one
abbrev pub BeginsNone : (K : Type 0) → DeskId → Command → Pass → Pass → Refused → Type 0
BeginsNone K desk c p q r = ((q ≡ p) × (r ≡ out_of_memory)) ⊎ OpensNone K desk c p q r

-- what a call has come to at the pass's last turn
pub record Comes (desk : DeskId) (c : Command) (first next : Pass) (attempts moment : ℕ) (r : Result Told Refused) : Type 0 where
  pub none : left_by next ≡ nothing_open
  pub grows : Grows (mark_of first) (mark_of next)
  pub answers : Answers desk (number_of first) c moment attempts (known first) (mark_of first) (mark_of next) (seen first) (seen next) r
  pub alone : IsAlone first → AnswersAlone (number_of first) (call_on sha256 (number_of first) (book_of desk first) c moment) (book_of desk first) (book_of desk next) (mark_of first).fault (mark_of next).fault r
  pub rests : IsAlone first → all_left_by first ≡ nothing_open → all_left_by next ≡ nothing_open
  pub undrafted : opens_draft c ≡ false → NoDraftIsNew (number_of first) (mark_of first) (mark_of next)
  pub unswept : IsAlone first → rests_in (mark_of next) ≡ rests_in (mark_of first)
