-- Drafts: what opening, settling and dropping one answers, and what it leaves.
use Rattle.std.specs.Prelude.{◌≡◌, ◌⊎◌, ℕ, ◌+◌, List, [], ◌∷◌, ◌++◌, Some, None, Ok, Err, Result, Bool, true, false, cond, nat_eq, ◌&&◌}
use Rattle.sha2.specs.Sha256.{sha256}
use Rattle.cat_model.specs.declared.command.Command.{Command}
use Rattle.cat_model.specs.declared.log_entry.LogEntry.{LogEntry}
use Rattle.cat_model.specs.declared.refusal.Refusal.{Refusal}
use Rattle.cat_model.specs.declared.refusal.Refusal.TheVariants as refusals
use Rattle.cat_model.specs.declared.refusal.Refused.{Refused}
use Rattle.cat_model.specs.declared.reply.Told.{Told}
use Rattle.cat_model.specs.Book.{Book, after_call, attempt_on}
use Rattle.cat_model.specs.Calls.{Called, in_draft, needs_draft}
use Rattle.cat_model.specs.Drafts.{Open, OpenDraft, Opening}
use Rattle.cat_model.specs.Mark.{FailedAppend}
use Rattle.cat_model.specs.Naming.{names_of}
use Rattle.cat_model.specs.Refusing.{◌>>=◌, Tested}
use Rattle.cat_model.specs.State.{State}
use Rattle.cat_model.specs.Step.{opening}
use Rattle.cat_decisions.specs.declared.building.Built.{Built}
use Rattle.cat_decisions.specs.Builds.{HasHead, IsGivenBy, command_of}
use Rattle.cat_state.specs.Kept.{spelling}
use Rattle.cat_core.specs.declared.draft.Draft.{Draft}
use Rattle.cat_core.specs.declared.draft.Settled.{Settled}
use Rattle.cat_core.specs.declared.draft.Settled.TheVariants as settled
use Rattle.cat_core.specs.declared.tickets.Ticket.{Ticket}
use Rattle.cat_core.specs.Noting.{noting}
use Rattle.cat_core.specs.Stored.{IsDownAt, IsUp, Stored, opening_at}

-- ---- drafts

abbrev pub command_in : Draft → Command
command_in d = command_of d.call

abbrev pub opening_in : Draft → Opening
opening_in d = record { number = d.number; caller = d.caller; place = d.place }

abbrev pub open_draft_of : Draft → OpenDraft
open_draft_of d = record { opening = opening_in d; names = names_of sha256 d.number (command_in d) }

abbrev pub IsOpen : OpenDraft → List OpenDraft → Type 0
IsOpen d [] = ⊥
IsOpen d (x ∷ xs) = (x ≡ d) ⊎ IsOpen d xs

-- less those of this caller and number
abbrev pub without : Opening → List OpenDraft → List OpenDraft
without o [] = []
without o (x ∷ xs) = cond (nat_eq x.opening.caller o.caller && nat_eq x.opening.number o.number) (without o xs) (x ∷ without o xs)

-- what is open once the draft is closed
abbrev pub closed : {K : Type 0} → Stored K → Draft → Open
closed s d = record (s.left_open) { drafts = without (opening_in d) s.left_open.drafts }

abbrev pub with_opened : {K : Type 0} → Stored K → Draft → Stored K
with_opened s d = record s {
  book = record (s.book) { draft = d.number };
  mark = record (s.mark) { draft = d.number; drafter = d.caller };
  left_open = record { drafts = s.left_open.drafts ++ open_draft_of d ∷ []; sweep = noting (names_of sha256 d.number (command_in d)) s.left_open.sweep };
}

abbrev pub dropping : {K : Type 0} → Stored K → Draft → Stored K
dropping s d = record s { mark = record (s.mark) { dropped = Some (opening_in d) }; left_open = closed s d }

-- once a draft of a command is kept
abbrev pub holding : {K : Type 0} → Stored K → Ticket → Command → Stored K
holding s t c = record s {
  book = record (s.book) { draft = t.number };
  mark = record (s.mark) { draft = t.number; drafter = t.caller };
  left_open = record { drafts = s.left_open.drafts ++ record { opening = opening_at t; names = names_of sha256 t.number c } ∷ []; sweep = noting (names_of sha256 t.number c) s.left_open.sweep };
}

-- what the call brings in its draft
abbrev pub called_in : {K : Type 0} → Stored K → Draft → ℕ → Called
called_in s d moment = attempt_on sha256 s.book (in_draft d.caller moment d.number d.place) (command_in d)

-- the branch has the head that was built on
abbrev pub IsOn : {K : Type 0} → Stored K → Draft → Built → Type 0
IsOn s d built = HasHead s.book.state (command_in d) built.head

-- ---- opening

-- the tests before a draft, and whether a number is left
abbrev pub may_open : Book → Command → Tested
may_open book c = opening sha256 book.state c >>= λ _. needs_draft book.state book.draft true

-- the draft that a command opens, and what it leaves
pub record IsOpening {K : Type 0} (caller : ℕ) (c : Command) (s s' : Stored K) (d : Draft) (view : State) : Type 0 where
  pub up : IsUp s
  pub passes : may_open s.book c ≡ Ok tt
  pub number : d.number ≡ s.book.draft + 1
  pub caller_is : d.caller ≡ caller
  pub place : d.place ≡ s.book.state.place
  pub command_is : command_in d ≡ c
  pub given : IsGivenBy d.number d.call
  pub view_is : view ≡ s.book.state
  pub after : s' ≡ with_opened s d

-- why none was opened, by the reason
abbrev pub NotOpened : {K : Type 0} → Stored K → Command → Refused → Refusal → Type 0
NotOpened s c r refusals.NoMemory = r.place ≡ None
NotOpened s c r (refusals.Down count) = (r.place ≡ Some s.book.state.place) × IsDownAt s count
NotOpened s c r why = IsUp s × (r ≡ record { place = Some s.book.state.place; why = why }) × (may_open s.book c ≡ Err why)

-- ---- calls

-- a call was carried out, and this is open
pub record Does {K : Type 0} (called : Called) (s : Stored K) (told : Told) (s' : Stored K) (left_open : Open) : Type 0 where
  pub up : IsUp s
  pub said : called.said ≡ Ok told
  pub after : s' ≡ record s { book = after_call s.book called; keeper = s'.keeper; left_open = left_open }

-- it was accepted, and the append of its entry failed
pub record Falls {K : Type 0} (called : Called) (caller : ℕ) (s : Stored K) (r : Refused) (s' : Stored K) (left_open : Open) : Type 0 where
  pub up : IsUp s
  pub place : r.place ≡ Some s.book.state.place
  pub entry : LogEntry
  pub logged : called.logged ≡ entry ∷ []
  pub fault : FailedAppend
  pub caller_is : fault.caller ≡ caller
  pub payload : fault.payload ≡ spelling entry
  pub after : s' ≡ record s { keeper = s'.keeper; mark = record (s.mark) { fault = Some fault }; left_open = left_open }

-- the rules refuse it
pub record IsRefused {K : Type 0} (called : Called) (s : Stored K) (r : Refused) (s' : Stored K) (left_open : Open) : Type 0 where
  pub up : IsUp s
  pub said : called.said ≡ Err r
  pub none : called.logged ≡ []
  pub after : s' ≡ record s { keeper = s'.keeper; left_open = left_open }

-- a refusal, by its reason
abbrev pub Refuses : {K : Type 0} → Called → ℕ → Stored K → Refused → Refusal → Stored K → Open → Type 0
Refuses called caller s r refusals.NoMemory s' left_open = (r.place ≡ None) × (s' ≡ record s { keeper = s'.keeper; left_open = left_open })
Refuses called caller s r (refusals.Down count) s' left_open = (r.place ≡ Some s.book.state.place) × IsDownAt s count × (s' ≡ record s { left_open = left_open })
Refuses called caller s r refusals.Fault s' left_open = Falls called caller s r s' left_open
Refuses called caller s r why s' left_open = IsRefused called s r s' left_open

-- what a call answers and leaves that opens no draft
abbrev pub Refers : {K : Type 0} → Called → ℕ → Stored K → Stored K → Result Told Refused → Type 0
Refers called caller s s' (Ok told) = Does called s told s' s.left_open
Refers called caller s s' (Err r) = Refuses called caller s r r.why s' s.left_open

-- ---- settling

abbrev pub is_expired : Refusal → Bool
is_expired (refusals.Expired keys place) = true
is_expired _ = false

-- contents are gone that its plans set: the mark tells of the draft
pub record Expires {K : Type 0} (called : Called) (s : Stored K) (d : Draft) (r : Refused) (s' : Stored K) : Type 0 where
  pub up : IsUp s
  pub said : called.said ≡ Err r
  pub none : called.logged ≡ []
  pub after : s' ≡ record s { keeper = s'.keeper; mark = record (s.mark) { expired = Some (opening_in d) }; left_open = closed s d }

-- a refusal of a draft that is settled, by its reason
abbrev pub RefusesDraft : {K : Type 0} → Called → Stored K → Draft → Refused → Refusal → Stored K → Type 0
RefusesDraft called s d r (refusals.Expired keys place) s' = Expires called s d r s'
RefusesDraft called s d r why s' = Refuses called d.caller s r why s' (closed s d)

-- the head was found to be the one that was built on
abbrev pub IsSettledOn : {K : Type 0} → Stored K → Draft → Built → Refused → Type 0
IsSettledOn s d built r = IsUp s → opening sha256 s.book.state (command_in d) ≡ Ok tt → (r.why ≡ refusals.NoMemory → ⊥) → IsOn s d built

-- the head has moved, and nothing was done
pub record IsMoved {K : Type 0} (s : Stored K) (d : Draft) (built : Built) (e : Draft) (view : State) (s' : Stored K) : Type 0 where
  pub up : IsUp s
  pub passes : opening sha256 s.book.state (command_in d) ≡ Ok tt
  pub other : IsOn s d built → ⊥
  pub draft : e ≡ d
  pub view_is : view ≡ s.book.state
  pub after : s' ≡ s

-- what settling a draft at a moment answers, and what it leaves
abbrev pub Settles : {K : Type 0} → Stored K → Draft → Built → ℕ → Settled → Stored K → Type 0
Settles s d built moment (settled.Done told) s' = IsOn s d built × Does (called_in s d moment) s told s' (closed s d)
Settles s d built moment (settled.Refused r) s' = IsSettledOn s d built r × RefusesDraft (called_in s d moment) s d r r.why s'
Settles s d built moment (settled.Moved e view) s' = IsMoved s d built e view s'

-- the draft is given back with a view; or memory ran out, and it is closed
abbrev pub IsGivenBack : {K : Type 0} → Stored K → Draft → Settled → Stored K → Type 0
IsGivenBack s d (settled.Done told) s' = ⊥
IsGivenBack s d (settled.Refused r) s' = (r ≡ record { place = None; why = refusals.NoMemory }) × (s' ≡ record s { left_open = closed s d })
IsGivenBack s d (settled.Moved e view) s' = (e ≡ d) × (view ≡ s.book.state) × (s' ≡ s)
