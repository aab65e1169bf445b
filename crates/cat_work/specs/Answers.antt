-- What a call on a pass answers.
use Rattle.std.specs.Prelude.{◌≡◌, ◌≢◌, ◌⊎◌, ◌<◌, ◌≤◌, ℕ, ◌+◌, List, [], ◌∷◌, ◌++◌, length, take, Option, Some, None, Result, Ok, Err, Bool, true, false}
use Rattle.sha2.specs.Sha256.{sha256}
use Rattle.cat_names.specs.Fields.{Key}
use Rattle.cat_names.specs.declared.hash.Hash.{Hash}
use Rattle.cat_checks.specs.Histories.{book_at}
use Rattle.cat_decisions.specs.Builds.{HasHead}
use Rattle.cat_desk.specs.Log.{Follows}
use Rattle.cat_io.specs.Clocks.{Ticks}
use Rattle.cat_desk.specs.Pass.{DeskId, all_left_by, known, mark_of, number_of, seen, turn_of}
use Rattle.cat_desk.specs.declared.pass.Pass.{Pass}
use Rattle.cat_state.specs.Kept.{spelling}
use Rattle.cat_core.specs.Gone.{never_held, set_upon}
use Rattle.cat_core.specs.Lasting.{states_since}
use Rattle.cat_core.specs.Making.{IsNotKept}
use Rattle.cat_model.specs.declared.command.Command.{Command}
use Rattle.cat_model.specs.declared.limits.Quantity.{Quantity}
use Rattle.cat_model.specs.declared.limits.Quantity.TheVariants.{Drafts}
use Rattle.cat_model.specs.declared.log_entry.Action.TheVariants as actions
use Rattle.cat_model.specs.declared.log_entry.LogEntry.{LogEntry}
use Rattle.cat_model.specs.declared.refusal.Refusal.{Refusal}
use Rattle.cat_model.specs.declared.refusal.Refusal.TheVariants as refusals
use Rattle.cat_model.specs.declared.refusal.Refused.{Refused}
use Rattle.cat_model.specs.declared.reply.Reply.{Reply}
use Rattle.cat_model.specs.declared.reply.Told.{Told}
use Rattle.cat_model.specs.Book.{Book, IsCalled, IsGivenUp, call_on}
use Rattle.cat_model.specs.Calls.{Called, entry_made}
use Rattle.cat_model.specs.Drafts.{Opening, nothing_open}
use Rattle.cat_model.specs.KeySets.{key_set}
use Rattle.cat_model.specs.Mark.{ClosedSweep, FailedAppend, Mark}
use Rattle.cat_model.specs.Refusing.{Outcome}
use Rattle.cat_model.specs.State.{State}
use Rattle.cat_model.specs.Turns.{place_after}
use Rattle.cat_model.specs.Step.{Turn, logged_command, opening, opens_draft, step}
use Rattle.cat_work.specs.Passes.{IsAlone, book_of, state_of}

-- ---- steps at a moment

-- the step of a call in this draft, begun at some place, comes to this
abbrev pub ComesToIn : ℕ → State → Command → ℕ → Outcome → Type 0
ComesToIn draft state c moment outcome = (opened : ℕ) × (step sha256 state c (record { draft = draft; opened = opened; moment = moment }) ≡ outcome)

-- a call that opens a draft has a new number, above the last one that was known; any other has none
abbrev pub IsDraftAbove : ℕ → Bool → ℕ → Type 0
IsDraftAbove last true draft = last < draft
IsDraftAbove last false draft = draft ≡ 0

-- it comes to this in a draft of its own
pub record ComesTo (last : ℕ) (state : State) (c : Command) (moment : ℕ) (outcome : Outcome) : Type 0 where
  pub draft : ℕ
  pub above : IsDraftAbove last (opens_draft c) draft
  pub is : ComesToIn draft state c moment outcome

-- where a call opens a draft, a number was left when the last one was known
abbrev pub HadNumber : DeskId → Command → ℕ → Type 0
HadNumber desk c last = opens_draft c ≡ true → last < desk.opened.state.limits.drafts

-- the step is accepted on a state, and this is the caller's entry of it
pub record IsEntryOf (n : ℕ) (state : State) (c : Command) (moment : ℕ) (entry : LogEntry) : Type 0 where
  pub turn : Turn
  pub after : State
  pub reply : Reply
  pub is : step sha256 state c turn ≡ Ok (after, reply)
  pub higher : state.place < after.place
  pub moment_is : turn.moment ≡ moment
  pub entry_is : entry ≡ entry_made sha256 n after c turn reply

-- ---- accepted

-- its entry is the last, and no append has failed
pub record Accepts (desk : DeskId) (n : ℕ) (c : Command) (moment : ℕ) (before after : Mark) (l : List LogEntry) (told : Told) (m : List LogEntry) : Type 0 where
  pub up : after.fault ≡ None
  pub earlier : List LogEntry
  pub entry : LogEntry
  pub follows : Follows n l earlier
  pub log : m ≡ earlier ++ entry ∷ []
  pub caller : entry.caller ≡ n
  pub moment_is : entry.moment ≡ moment
  pub command_is : entry.action ≡ actions.Call (logged_command sha256 entry.draft c)
  pub draft : IsDraftAbove before.draft (opens_draft c) entry.draft
  pub number : HadNumber desk c before.draft
  pub place : told.place ≡ (state_of desk m).place
  pub reply : ComesToIn entry.draft (state_of desk earlier) c moment (Ok (state_of desk m, told.reply))

-- it is told without an entry
pub record Tells (desk : DeskId) (n : ℕ) (c : Command) (moment : ℕ) (before after : Mark) (l : List LogEntry) (told : Told) (m : List LogEntry) : Type 0 where
  pub up : after.fault ≡ None
  pub follows : Follows n l m
  pub number : HadNumber desk c before.draft
  pub place : told.place ≡ (state_of desk m).place
  pub reply : ComesTo before.draft (state_of desk m) c moment (Ok (state_of desk m, told.reply))

-- ---- refused

-- the refusal was decided on the state after this log
abbrev pub IsAt : DeskId → List LogEntry → Option ℕ → Type 0
IsAt desk m place = place ≡ Some (state_of desk m).place

-- the rules refuse it on that state, and no append has failed; past the tests before a draft, a number was left
pub record IsRuledOut (desk : DeskId) (c : Command) (moment : ℕ) (before after : Mark) (m : List LogEntry) (place : Option ℕ) (why : Refusal) : Type 0 where
  pub at : IsAt desk m place
  pub up : after.fault ≡ None
  pub number : opening sha256 (state_of desk m) c ≡ Ok tt → HadNumber desk c before.draft
  pub comes : ComesTo before.draft (state_of desk m) c moment (Err why)

-- a fault of this caller was there before
abbrev pub NoFaultIsNew : ℕ → Mark → Mark → Type 0
NoFaultIsNew n before after = (x : FailedAppend) → after.fault ≡ Some x → x.caller ≡ n → before.fault ≡ Some x

-- a last draft number of this caller was there before
abbrev pub NoDraftIsNew : ℕ → Mark → Mark → Type 0
NoDraftIsNew n before after = after.drafter ≡ n → before.draft ≡ after.draft

-- an append had failed, at this count of faults
pub record IsDown (n count : ℕ) (before after : Mark) : Type 0 where
  pub fault : FailedAppend
  pub is : after.fault ≡ Some fault
  pub count_is : fault.count ≡ count
  pub known : fault.caller ≡ n → before.fault ≡ Some fault

-- the call was accepted, and the append of its entry failed
pub record Falls (desk : DeskId) (n : ℕ) (state : State) (c : Command) (moment : ℕ) (before after : Mark) : Type 0 where
  pub fault : FailedAppend
  pub is : after.fault ≡ Some fault
  pub caller_is : fault.caller ≡ n
  pub new : before.fault ≡ Some fault → ⊥
  pub entry : LogEntry
  pub accepted : IsEntryOf n state c moment entry
  pub draft : IsDraftAbove before.draft (opens_draft c) entry.draft
  pub number : HadNumber desk c before.draft
  pub payload : fault.payload ≡ spelling entry

-- no draft number is left, and the last was known before or is another caller's
pub record LacksDraft (n : ℕ) (state : State) (c : Command) (number : ℕ) (before after : Mark) : Type 0 where
  pub up : after.fault ≡ None
  pub opens : opens_draft c ≡ true
  pub passes : opening sha256 state c ≡ Ok tt
  pub limit : number ≡ state.limits.drafts
  pub taken : number ≤ after.draft
  pub others : after.drafter ≡ n → before.draft ≡ after.draft

-- where a call began that is refused for contents that are gone: at its state, or where the draft was opened that the mark tells of, which is the caller's
abbrev pub BeganAt : ℕ → Bool → ℕ → Mark → ℕ → ℕ → Type 0
BeganAt n false place after draft opened = opened ≡ place
BeganAt n true place after draft opened = after.expired ≡ Some (record { number = draft; caller = n; place = opened })

-- of the entries that a call sets upon its branch's head after this log, the keys are just those whose content is in none of the states that the log leads through from a place on, which isn't after its end
pub record AreGoneSince (desk : DeskId) (c : Command) (m : List LogEntry) (place : ℕ) (keys : List Key) : Type 0 where
  pub within : place ≤ (state_of desk m).place
  pub head : Hash
  pub has : HasHead (state_of desk m) c head
  pub never : keys ≡ key_set (never_held (states_since (book_at desk.opened m) place) (set_upon (state_of desk m) c head))

-- contents are gone that the call would set or show: its step says so, in a draft of its own, with the keys and the place at which it began, which is no less than was known; those that a draft would set were there at no moment since
pub record Expires (desk : DeskId) (n : ℕ) (c : Command) (moment k : ℕ) (before after : Mark) (m : List LogEntry) (keys : List Key) (opened : ℕ) : Type 0 where
  pub up : after.fault ≡ None
  pub passes : opening sha256 (state_of desk m) c ≡ Ok tt
  pub number : HadNumber desk c before.draft
  pub draft : ℕ
  pub above : IsDraftAbove before.draft (opens_draft c) draft
  pub is : step sha256 (state_of desk m) c (record { draft = draft; opened = opened; moment = moment }) ≡ Err (refusals.Expired keys opened)
  pub known : k ≤ opened
  pub began : BeganAt n (opens_draft c) (state_of desk m).place after draft opened
  pub gone : opens_draft c ≡ true → AreGoneSince desk c m opened keys

-- ---- attempts

-- the head is the branch's at a place of the log
pub record IsHeadAt (desk : DeskId) (c : Command) (log : List LogEntry) (pair : ℕ × Hash) : Type 0 where
  pub entries : ℕ
  pub within : entries ≤ length log
  pub place : pair.0 ≡ desk.opened.state.place + entries
  pub head : HasHead (state_of desk (take entries log)) c pair.1

abbrev pub AreHeadsAt : DeskId → Command → List LogEntry → List (ℕ × Hash) → Type 0
AreHeadsAt desk c log [] = Unit {0}
AreHeadsAt desk c log (pair ∷ pairs) = IsHeadAt desk c log pair × AreHeadsAt desk c log pairs

-- places rise, and neighbouring heads differ
abbrev pub Climbs : ℕ × Hash → List (ℕ × Hash) → Type 0
Climbs pair [] = Unit {0}
Climbs pair (next ∷ pairs) = (pair.0 < next.0) × (pair.1 ≢ next.1) × Climbs next pairs

abbrev pub Rises : List (ℕ × Hash) → Type 0
Rises [] = Unit {0}
Rises (pair ∷ pairs) = Climbs pair pairs

abbrev pub first_place : List (ℕ × Hash) → ℕ
first_place [] = 0
first_place (pair ∷ pairs) = pair.0

-- each head that was built on was the branch's, the first at the opening of the draft that was dropped, and the last is the branch's at the end, where the tests before a draft pass and no append has failed
pub record Spends (desk : DeskId) (n : ℕ) (c : Command) (attempts k : ℕ) (before after : Mark) (m : List LogEntry) (pairs : List (ℕ × Hash)) : Type 0 where
  pub up : after.fault ≡ None
  pub opens : opens_draft c ≡ true
  pub passes : opening sha256 (state_of desk m) c ≡ Ok tt
  pub left : HadNumber desk c before.draft
  pub count : length pairs ≡ attempts + 1
  pub rises : Rises pairs
  pub at : AreHeadsAt desk c m pairs
  pub front : List (ℕ × Hash)
  pub head : Hash
  pub last : pairs ≡ front ++ ((state_of desk m).place, head) ∷ []
  pub known : k ≤ first_place pairs
  pub number : ℕ
  pub dropped : after.dropped ≡ Some (record { number = number; caller = n; place = first_place pairs })
  pub newer : before.draft < number

-- ---- answers

abbrev pub CausesLimit : DeskId → ℕ → Command → ℕ → Mark → Mark → List LogEntry → Option ℕ → Quantity → ℕ → Type 0
CausesLimit desk n c moment before after m place Drafts number = IsAt desk m place × LacksDraft n (state_of desk m) c number before after
CausesLimit desk n c moment before after m place which number = IsRuledOut desk c moment before after m place (refusals.Limit which number)

-- a refusal, by its reason
abbrev pub Causes : DeskId → ℕ → Command → ℕ → ℕ → ℕ → Mark → Mark → List LogEntry → Option ℕ → Refusal → Type 0
Causes desk n c moment attempts k before after m place refusals.NoMemory = (place ≡ None) × NoFaultIsNew n before after
Causes desk n c moment attempts k before after m place (refusals.Down count) = IsAt desk m place × IsDown n count before after
Causes desk n c moment attempts k before after m place refusals.Fault = IsAt desk m place × Falls desk n (state_of desk m) c moment before after
Causes desk n c moment attempts k before after m place (refusals.RetriesSpent pairs) = IsAt desk m place × Spends desk n c attempts k before after m pairs
Causes desk n c moment attempts k before after m place (refusals.Expired keys opened) = IsAt desk m place × Expires desk n c moment k before after m keys opened
Causes desk n c moment attempts k before after m place (refusals.Limit which number) = CausesLimit desk n c moment before after m place which number
Causes desk n c moment attempts k before after m place why = IsRuledOut desk c moment before after m place why

-- what a call at a moment answers on a pass with number n that had seen l, knew of the place k and held the mark before, and has then seen m and holds the mark after
abbrev pub Answers : DeskId → ℕ → Command → ℕ → ℕ → ℕ → Mark → Mark → List LogEntry → List LogEntry → Result Told Refused → Type 0
Answers desk n c moment attempts k before after l m (Ok told) = Accepts desk n c moment before after l told m ⊎ Tells desk n c moment before after l told m
Answers desk n c moment attempts k before after l m (Err refused) = Follows n l m × Causes desk n c moment attempts k before after m refused.place refused.why

-- where a state was looked at, it was in a turn of the call, and the pass has seen all that it knows of, which is no less than before
abbrev pub KnowsAt : DeskId → Pass → Pass → Option ℕ → Type 0
KnowsAt desk p q None = known p ≤ known q
KnowsAt desk p q (Some place) = (known p ≤ place_after desk.opened (seen q)) × (known q ≡ place_after desk.opened (seen q)) × (turn_of p < turn_of q)

abbrev pub Knows : DeskId → Pass → Pass → Result Told Refused → Type 0
Knows desk p q (Ok told) = (known p ≤ place_after desk.opened (seen q)) × (known q ≡ place_after desk.opened (seen q)) × (turn_of p < turn_of q)
Knows desk p q (Err refused) = KnowsAt desk p q refused.place

-- ---- the only pass

-- its entry was to be kept, and the append failed, for the first time
pub record FallsAlone (n : ℕ) (called : Called) (b b' : Book) (f f' : Option FailedAppend) (refused : Refused) : Type 0 where
  pub place : refused.place ≡ Some b.state.place
  pub unkept : IsNotKept called b b'
  pub up : f ≡ None
  pub fault : FailedAppend
  pub is : f' ≡ Some fault
  pub caller_is : fault.caller ≡ n
  pub entry : LogEntry
  pub logged : called.logged ≡ entry ∷ []
  pub payload : fault.payload ≡ spelling entry

-- an append had failed
pub record IsDownAlone (count : ℕ) (b b' : Book) (f f' : Option FailedAppend) (refused : Refused) : Type 0 where
  pub place : refused.place ≡ Some b.state.place
  pub book : b' ≡ b
  pub fault : FailedAppend
  pub was : f ≡ Some fault
  pub is : f' ≡ Some fault
  pub count_is : fault.count ≡ count

abbrev pub RefusesAlone : ℕ → Called → Book → Book → Option FailedAppend → Option FailedAppend → Refused → Refusal → Type 0
RefusesAlone n called b b' f f' refused refusals.NoMemory = IsGivenUp b b' refused × (f' ≡ f)
RefusesAlone n called b b' f f' refused (refusals.Down count) = IsDownAlone count b b' f f' refused
RefusesAlone n called b b' f f' refused refusals.Fault = FallsAlone n called b b' f f' refused
RefusesAlone n called b b' f f' refused (refusals.RetriesSpent pairs) = ⊥
RefusesAlone n called b b' f f' refused why = IsCalled called b b' (Err refused) × (f ≡ None) × (f' ≡ None)

-- on the only pass: what the model's call on the pass's book does, unless memory ran out or an append failed
abbrev pub AnswersAlone : ℕ → Called → Book → Book → Option FailedAppend → Option FailedAppend → Result Told Refused → Type 0
AnswersAlone n called b b' f f' (Ok told) = IsCalled called b b' (Ok told) × (f ≡ None) × (f' ≡ None)
AnswersAlone n called b b' f f' (Err refused) = RefusesAlone n called b b' f f' refused refused.why

-- ---- a call

-- the sweeps that a mark tells of: the open one, and the one that was closed last
abbrev pub sweeps_in : Mark → Option Opening × Option ClosedSweep
sweeps_in m = (m.sweep, m.closed)

-- how a mark tells that the log is kept: in which format, the place of the last checkpoint, and how many there are
abbrev pub journal_in : Mark → ℕ × ℕ × Option ℕ
journal_in m = (m.format, m.base, m.bases)

-- both, which a change of the catalogue leaves
abbrev pub rests_in : Mark → (ℕ × ℕ × Option ℕ) × Option Opening × Option ClosedSweep
rests_in m = (journal_in m, m.sweep, m.closed)

-- what a call on a pass answers, at the moment of one reading of the clock and in so many attempts, whatever others do; what on the only pass of its desk, where nothing is left open if nothing was open, no sweep was opened, and the log is kept as it was; and a call that needs no draft opens none
abbrev pub AnswersTo : DeskId → Command → ℕ → Option (ℕ → ℕ) → Option (ℕ → ℕ) → Pass → Pass → Result Told Refused → Type 0
AnswersTo desk command attempts ahead ahead' p q result =
    (moment : ℕ) × Ticks ahead ahead' moment
    × Answers desk (number_of p) command moment attempts (known p) (mark_of p) (mark_of q) (seen p) (seen q) result
    × (IsAlone p → AnswersAlone (number_of p) (call_on sha256 (number_of p) (book_of desk p) command moment) (book_of desk p) (book_of desk q) (mark_of p).fault (mark_of q).fault result)
    × (IsAlone p → all_left_by p ≡ nothing_open → all_left_by q ≡ nothing_open)
    × (opens_draft command ≡ false → NoDraftIsNew (number_of p) (mark_of p) (mark_of q))
    × (IsAlone p → rests_in (mark_of q) ≡ rests_in (mark_of p))
