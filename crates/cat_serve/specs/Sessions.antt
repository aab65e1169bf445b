-- A session over one stream of bytes: the requests in turn, the replies to them, and how it ends.
use Rattle.std.specs.Prelude.{ℕ, ◌+◌, ◌<◌, ◌==◌, ◌≡◌, ◌⊎◌, List, [], ◌∷◌, ◌++◌, length, reverse, take, Option, Some, None, Bool, true, false, ◌||◌, Result, Ok, Err}
use Rattle.sha2.specs.Sha256.{sha256}
use Rattle.cat_io.specs.Clocks.{Ticks, from}
use Rattle.cat_model.specs.declared.log_entry.LogEntry.{LogEntry}
use Rattle.cat_model.specs.declared.refusal.Refusal.{Refusal}
use Rattle.cat_model.specs.declared.refusal.Refusal.TheVariants.{BadRequest, Down, Fault, TooLarge}
use Rattle.cat_model.specs.declared.refusal.Reason.TheVariants.{BadHead}
use Rattle.cat_model.specs.declared.reply.Reply.TheVariants as replies
use Rattle.cat_model.specs.declared.reply.Told.{Told}
use Rattle.cat_model.specs.Drafts.{nothing_open}
use Rattle.cat_model.specs.Requests.{Brought, IsGivenUp, Journal, MayBring, Session, Wants, request, said_only}
use Rattle.cat_model.specs.Turns.{Opened}
use Rattle.cat_frames.specs.Bases.{checkpoint_at, checkpoint_spelling}
use Rattle.cat_http.specs.Message.{Message}
use Rattle.cat_http.specs.Fields.{closes}
use Rattle.cat_http.specs.Next.{IsRequest, IsEnd, IsMalformed, IsTooLarge, IsCut}
use Rattle.cat_rest.specs.declared.wanted.Wanted.{Wanted}
use Rattle.cat_rest.specs.declared.wanted.Wanted.TheVariants.{Change, Collect, Checkpoint}
use Rattle.cat_rest.specs.Wanted.{wanted, wants}
use Rattle.cat_state.specs.Kept.{spelling}
use Rattle.cat_model.specs.Mark.{FailedAppend, Mark}
use Rattle.cat_desk.specs.Pass.{DeskId, all_left_by, mark_of, number_of}
use Rattle.cat_desk.specs.declared.pass.Pass.{Pass}
use Rattle.cat_work.specs.Passes.{IsAlone, IsReady, book_of}
use Rattle.cat_serve.specs.declared.ending.Session.{Session as End}
use Rattle.cat_serve.specs.declared.ending.Session.TheVariants as ends
use Rattle.cat_serve.specs.Replies.{IsRefusalOf, is_head, must_be_told, said_bytes}

-- ---- readings

-- the readings of a clock, the first at 0
abbrev pub Readings : Type 0
Readings = ℕ → ℕ

-- these were taken of a clock, one after another
abbrev pub Took : List ℕ → Option Readings → Option Readings → Type 0
Took [] ahead now = now ≡ ahead
Took (reading ∷ readings) ahead now = (next : Option Readings) × Ticks ahead next reading × Took readings next now

-- the readings from the n-th on begin with these
abbrev pub BeginsAt : ℕ → Readings → List ℕ → Type 0
BeginsAt n clock [] = Unit {0}
BeginsAt n clock (reading ∷ readings) = (clock n ≡ reading) × BeginsAt (n + 1) clock readings

-- where the clock tells what is ahead, it tells these
abbrev pub AreAhead : Option Readings → Readings → Type 0
AreAhead ahead clock = (told : Readings) → ahead ≡ Some told → clock ≡ told

-- and then it tells afterwards what comes behind so many
abbrev pub ReadsOn : Option Readings → Option Readings → ℕ → Type 0
ReadsOn ahead now count = (told : Readings) → ahead ≡ Some told → now ≡ Some (from count told)

-- ---- one request on a store

-- an append that failed, of an entry or of a checkpoint: the count of faults then, and the payload that was to be kept
pub record Fallen : Type 0 where
  pub count : ℕ
  pub payload : List ℕ

-- how a store stands in a session: the session, and the append or the checkpoint that failed, if one did
pub record Standing : Type 0 where
  pub session : Session
  pub fallen : Option Fallen

-- what a request wants, as the definitions of a session have it
abbrev pub wants_in : Result Wanted Refusal → Result Wants Refusal
wants_in (Ok wanted) = Ok (wants wanted)
wants_in (Err why) = Err why

-- a call while the store is down: it is told so, once its moment is taken
abbrev pub down_call : Session → ℕ → Brought
down_call s count = record { said = Err (record { place = Some s.book.state.place; why = Down count }); logged = []; after = record s { readings = s.readings + 1 } }

-- a checkpoint while the store is down is told so too, and takes no moment
abbrev pub down_checkpoint : Session → ℕ → Brought
down_checkpoint s count = said_only s (Err (record { place = Some s.book.state.place; why = Down count }))

-- a request while the store is down: all others are answered as ever
abbrev pub down_request : Readings → Session → ℕ → Result Wanted Refusal → Brought
down_request clock s count (Ok (Change command)) = down_call s count
down_request clock s count (Ok (Collect policy)) = down_call s count
down_request clock s count (Ok Checkpoint) = down_checkpoint s count
down_request clock s count wanted = request sha256 1 clock s (wants_in wanted)

-- what an accepted checkpoint of a session's state is told
abbrev pub checkpoint_told : Session → Told
checkpoint_told s = record { place = s.book.state.place; reply = replies.Checkpoint s.book.state.place }

-- what a request brings is to be kept as this payload: that of its entry, or of its checkpoint
abbrev pub IsToKeep : Session → Brought → List ℕ → Type 0
IsToKeep s b payload =
    ((entry : LogEntry) × (b.logged ≡ entry ∷ []) × (payload ≡ spelling entry))
    ⊎ ((b.said ≡ Ok (checkpoint_told s)) × (payload ≡ s.journal.payload s.book))

-- the request would make an entry or a checkpoint, which wasn't kept, and that is told as a fault: the moment and the draft number that it takes are taken, nothing else is changed, and the store is down
pub record Falls (clock : Readings) (before after : Standing) (wanted : Result Wanted Refusal) (b : Brought) : Type 0 where
  pub fallen : Fallen
  pub accepted : IsToKeep before.session (request sha256 1 clock before.session (wants_in wanted)) fallen.payload
  pub said : b.said ≡ Err (record { place = Some before.session.book.state.place; why = Fault })
  pub logged : b.logged ≡ []
  pub after_is : b.after ≡ record before.session {
    book = record before.session.book { draft = (request sha256 1 clock before.session (wants_in wanted)).after.book.draft };
    readings = (request sha256 1 clock before.session (wants_in wanted)).after.readings;
  }
  pub leaves : after.session ≡ b.after
  pub down : after.fallen ≡ Some fallen

-- what one request may come to, by whether an append had failed before
abbrev pub MayComeTo : Readings → Standing → Option Fallen → Result Wanted Refusal → Brought → Standing → Type 0
MayComeTo clock s None wanted b s' =
    (MayBring sha256 1 clock s.session (wants_in wanted) b × (s'.session ≡ b.after) × (s'.fallen ≡ None))
    ⊎ Falls clock s s' wanted b
MayComeTo clock s (Some f) wanted b s' =
    ((b ≡ down_request clock s.session f.count wanted) ⊎ IsGivenUp s.session b) × (s'.session ≡ b.after) × (s'.fallen ≡ Some f)

-- ---- one request after another

-- where a session stands: how many requests it still answers, the store, the bytes to come, and what was written
pub record Point : Type 0 where
  pub left : ℕ
  pub standing : Standing
  pub bytes : List ℕ
  pub written : List ℕ

-- the request asks for the end of the session
abbrev pub asks_to_close : Message → Bool
asks_to_close m = closes m.minor m.fields

-- a request, what it brings, and where the session stands after the reply
pub record Turn : Type 0 where
  pub message : Message
  pub brought : Brought
  pub after : Point

-- the next request at a is answered; the reply to the last request that a session answers says that it ends
pub record Answered (clock : Readings) (a : Point) (t : Turn) : Type 0 where
  pub reads : IsRequest a.bytes t.message t.after.bytes
  pub brings : MayComeTo clock a.standing a.standing.fallen (wanted t.message) t.brought t.after.standing
  pub left : a.left ≡ t.after.left + 1
  pub written : t.after.written ≡ a.written ++ said_bytes (asks_to_close t.message || t.after.left == 0) (is_head t.message) t.brought.said

-- from a the session goes on to c by these requests, none of which asks for its end
abbrev pub GoesOn : Readings → List Turn → Point → Point → Type 0
GoesOn clock [] a c = a ≡ c
GoesOn clock (t ∷ turns) a c = Answered clock a t × (asks_to_close t.message ≡ false) × GoesOn clock turns t.after c

abbrev pub Reaches : Readings → Point → Point → Type 0
Reaches clock a c = (turns : List Turn) × GoesOn clock turns a c

-- ---- how it ends at the point that it reached, and how the store stands then

-- the input ends between two requests
pub record IsAtEnd (c : Point) (held : List ℕ) (last : Standing) : Type 0 where
  pub some_left : 0 < c.left
  pub at_end : IsEnd c.bytes
  pub all : held ≡ c.written
  pub stays : last ≡ c.standing

-- the last request asks for the end
pub record IsClosedBy (clock : Readings) (c : Point) (t : Turn) (held : List ℕ) (last : Standing) : Type 0 where
  pub answered : Answered clock c t
  pub asks : asks_to_close t.message ≡ true
  pub all : held ≡ t.after.written
  pub leaves : last ≡ t.after.standing

-- what comes next is refused by its bytes, and the reply says that the session ends
pub record IsRefused (c : Point) (cause : Type 0) (why : Refusal) (held : List ℕ) (last : Standing) : Type 0 where
  pub some_left : 0 < c.left
  pub is_so : cause
  pub bytes : List ℕ
  pub replies : IsRefusalOf why bytes
  pub all : held ≡ c.written ++ bytes
  pub stays : last ≡ c.standing

-- this is the reply that is due next, and so the store stands then
abbrev pub IsDue : Readings → Point → List ℕ → Standing → Type 0
IsDue clock c bytes last =
    ((t : Turn) × Answered clock c t × (t.after.written ≡ c.written ++ bytes) × (last ≡ t.after.standing))
    ⊎ ((0 < c.left) × IsMalformed c.bytes × IsRefusalOf (BadRequest BadHead) bytes × (last ≡ c.standing))
    ⊎ ((0 < c.left) × IsTooLarge c.bytes × IsRefusalOf TooLarge bytes × (last ≡ c.standing))

-- a front of the reply that was due
abbrev pub IsCutOff : Readings → Point → List ℕ → Standing → Type 0
IsCutOff clock c held last = (bytes : List ℕ) × IsDue clock c bytes last × (n : ℕ) × (held ≡ c.written ++ take n bytes)

-- the next request is answered by what must be told, and no memory is left for its text: nothing of it is told
abbrev pub IsUntold : Readings → Point → List ℕ → Standing → Type 0
IsUntold clock c held last = (held ≡ c.written) × (t : Turn) × Answered clock c t × (must_be_told t.brought.said ≡ true) × (last ≡ t.after.standing)

-- what the sink holds where the session ended so, and how the store stands
abbrev pub EndsAt : Readings → Point → End → List ℕ → Standing → Type 0
EndsAt clock c ends.Closed held last = IsAtEnd c held last ⊎ ((t : Turn) × IsClosedBy clock c t held last)
EndsAt clock c ends.Capped held last = (c.left ≡ 0) × (held ≡ c.written) × (last ≡ c.standing)
EndsAt clock c ends.BadHead held last = IsRefused c (IsMalformed c.bytes) (BadRequest BadHead) held last
EndsAt clock c ends.TooLarge held last = IsRefused c (IsTooLarge c.bytes) TooLarge held last
EndsAt clock c ends.ReadFault held last = (0 < c.left) × (held ≡ c.written) × (last ≡ c.standing)
EndsAt clock c ends.WriteFault held last = IsCutOff clock c held last
EndsAt clock c ends.NoMemory held last = IsUntold clock c held last

-- of the bytes to come a source gave some and has left those that are unread: what it gave is no whole request, nor the head of one that is too large
abbrev pub LeavesCut : List ℕ → Option (List ℕ) → Type 0
LeavesCut bytes unread = (left : List ℕ) × (unread ≡ Some left) × IsCut bytes left

-- no memory is left to begin with: nothing is read, nothing is told, and the store stands as before
pub record IsNotBegun (a : Point) (end : End) (held : List ℕ) (last : Standing) (unread : Option (List ℕ)) : Type 0 where
  pub end_is : end ≡ ends.NoMemory
  pub unread_is : unread ≡ Some a.bytes
  pub all : held ≡ a.written
  pub stays : last ≡ a.standing

-- a session that begins at a ends so, there or at a point that it reached; after a read fault no whole request was read that isn't answered
abbrev pub Ends : Readings → Point → End → List ℕ → Standing → Option (List ℕ) → Type 0
Ends clock a end held last unread = IsNotBegun a end held last unread ⊎ ((c : Point) × Reaches clock a c × EndsAt clock c end held last × (end ≡ ends.ReadFault → LeavesCut c.bytes unread))

-- ---- what a pass, a source and a sink tell

-- what is seen of an append that failed: the count of faults then, and the payload
abbrev pub seen_failed : Option FailedAppend → Option (ℕ × List ℕ)
seen_failed None = None
seen_failed (Some x) = Some (x.count, x.payload)

abbrev pub seen_fallen : Option Fallen → Option (ℕ × List ℕ)
seen_fallen None = None
seen_fallen (Some x) = Some (x.count, x.payload)

-- the journal of a log that starts so, in a format, whose last checkpoint is of a place, and which has so many
abbrev pub journal_from : Opened → ℕ → ℕ → Option ℕ → Journal
journal_from o format base bases = record { format = format; base = base; bases = bases; payload = λ book. checkpoint_spelling (checkpoint_at o (reverse book.log) book.state []) }

-- the same, as a mark tells it
abbrev pub journal_by : Opened → Mark → Journal
journal_by o mark = journal_from o mark.format mark.base mark.bases

-- nothing is open on a desk, and its only pass stands so
pub record IsAt (desk : DeskId) (s : Standing) (pass : Pass) : Type 0 where
  pub ready : IsReady desk pass
  pub alone : IsAlone pass
  pub number : number_of pass ≡ 1
  pub book_is : book_of desk pass ≡ s.session.book
  pub fault_is : seen_failed (mark_of pass).fault ≡ seen_fallen s.fallen
  pub journal_is : journal_by desk.opened (mark_of pass) ≡ s.session.journal
  pub rests : all_left_by pass ≡ nothing_open

-- the pass, the source and the sink stand at a point
pub record Stands (desk : DeskId) (c : Point) (pass : Pass) (bytes held : Option (List ℕ)) : Type 0 where
  pub pass_at : IsAt desk c.standing pass
  pub bytes_are : bytes ≡ Some c.bytes
  pub held_is : held ≡ Some c.written

-- so many readings more were taken
abbrev pub HasTaken : List ℕ → Standing → Standing → Type 0
HasTaken taken before after = after.session.readings ≡ before.session.readings + length taken

-- some readings were taken of the clock, and this is so by all readings that go on with these at a point
abbrev pub ByReadings : Option Readings → Option Readings → (List ℕ → Readings → Point → Type 0) → Type 0
ByReadings ahead now so = (taken : List ℕ) × Took taken ahead now × ((clock : Readings) (c : Point) → BeginsAt c.standing.session.readings clock taken → so taken clock c)

-- a session that begins so ends so, where the source and the sink tell what they have
abbrev pub EndsKnown : DeskId → ℕ → Pass → Pass → Option Readings → Option Readings → Option (List ℕ) → Option (List ℕ) → Option (List ℕ) → End → Option (List ℕ) → Type 0
EndsKnown desk most pass pass' ahead now bytes unread held end after =
    ByReadings ahead now (λ (taken : List ℕ) (clock : Readings) (a : Point). a.left ≡ most → Stands desk a pass bytes held
    → (h : List ℕ) × (after ≡ Some h) × (last : Standing) × Ends clock a end h last unread × IsAt desk last pass' × HasTaken taken a.standing last)
