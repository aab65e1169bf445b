-- What a session answers on any pass of its desk, whatever other callers do.
use Rattle.std.specs.Prelude.{ℕ, ◌+◌, ◌==◌, ◌<◌, ◌≤◌, ◌≡◌, ◌⊎◌, List, [], ◌∷◌, take, Option, Some, IfSome, true, false, ◌||◌, Result, Ok, Err}
use Rattle.std.specs.Io.KnownBytes.{Appends}
use Rattle.sha2.specs.Sha256.{sha256}
use Rattle.cat_desk.specs.Log.{Follows}
use Rattle.cat_desk.specs.Marks.{Linked}
use Rattle.cat_desk.specs.Pass.{DeskId, all_left_by, known, mark_of, number_of, seen, turn_of}
use Rattle.cat_desk.specs.declared.pass.Pass.{Pass}
use Rattle.cat_http.specs.Message.{Message}
use Rattle.cat_http.specs.Next.{IsRequest, IsEnd, IsMalformed, IsTooLarge}
use Rattle.cat_model.specs.declared.ask.Ask.{Ask}
use Rattle.cat_model.specs.declared.command.Command.{Command}
use Rattle.cat_model.specs.declared.log_entry.LogEntry.{LogEntry}
use Rattle.cat_model.specs.declared.refusal.Reason.TheVariants.{BadHead}
use Rattle.cat_model.specs.declared.refusal.Refusal.{Refusal}
use Rattle.cat_model.specs.declared.refusal.Refusal.TheVariants.{BadRequest, TooLarge}
use Rattle.cat_model.specs.declared.refusal.Refused.{Refused}
use Rattle.cat_model.specs.declared.reply.Told.{Told}
use Rattle.cat_model.specs.Book.{Reads}
use Rattle.cat_model.specs.Drafts.{nothing_open}
use Rattle.cat_model.specs.Mark.{Grows}
use Rattle.cat_model.specs.Step.{opens_draft}
use Rattle.cat_model.specs.Turns.{place_after}
use Rattle.cat_policy.specs.declared.policy.Policy.{Policy}
use Rattle.cat_policy.specs.Policies.{resolved}
use Rattle.cat_collect.specs.Answers.{Answers as CollectionAnswers}
use Rattle.cat_rest.specs.declared.wanted.Wanted.{Wanted}
use Rattle.cat_rest.specs.declared.wanted.Wanted.TheVariants.{Change, Checkpoint, Collect, Read}
use Rattle.cat_rest.specs.Faults.{Answers as ByBytes}
use Rattle.cat_rest.specs.Wanted.{wanted}
use Rattle.cat_work.specs.Answers.{Answers, Knows, NoDraftIsNew, journal_in, rests_in, sweeps_in}
use Rattle.cat_work.specs.Checkpoints.{ChecksTo}
use Rattle.cat_work.specs.Passes.{IsAlone, book_of}
use Rattle.cat_serve.specs.declared.ending.Session.{Session as End}
use Rattle.cat_serve.specs.declared.ending.Session.TheVariants as ends
use Rattle.cat_serve.specs.Replies.{IsRefusalOf, is_head, must_be_told}
use Rattle.cat_serve.specs.Sessions.{LeavesCut, Readings, Took, asks_to_close}
use Rattle.cat_serve.specs.Answers.{RepliesTo}
use Rattle.cat_serve.specs.Entries.{Makes}

-- ---- one request, by the pass before it and the pass after it

-- a change is tried so often, at the moment of one reading of the clock
pub record IsChange (desk : DeskId) (attempts : ℕ) (command : Command) (taken : List ℕ) (p q : Pass) (told : Result Told Refused) : Type 0 where
  pub moment : ℕ
  pub one : taken ≡ moment ∷ []
  pub answers : Answers desk (number_of p) command moment attempts (known p) (mark_of p) (mark_of q) (seen p) (seen q) told
  pub knows : Knows desk p q told
  pub undrafted : opens_draft command ≡ false → NoDraftIsNew (number_of p) (mark_of p) (mark_of q)
  pub unswept : IsAlone p → rests_in (mark_of q) ≡ rests_in (mark_of p)
  pub grows : Grows (mark_of p) (mark_of q)

-- a collection is made once, by its policy at the moment of one reading of the clock
pub record IsCollection (desk : DeskId) (policy : Policy) (taken : List ℕ) (p q : Pass) (told : Result Told Refused) : Type 0 where
  pub moment : ℕ
  pub one : taken ≡ moment ∷ []
  pub answers : CollectionAnswers desk (number_of p) (resolved moment policy) moment (known p) (mark_of p) (mark_of q) (seen p) (seen q) told
  pub knows : Knows desk p q told
  pub undrafted : NoDraftIsNew (number_of p) (mark_of p) (mark_of q)
  pub unbased : IsAlone p → all_left_by p ≡ nothing_open → journal_in (mark_of q) ≡ journal_in (mark_of p)
  pub grows : Grows (mark_of p) (mark_of q)

-- a checkpoint is made in a turn of this call, or refused there: no moment is taken, no draft is opened, and no sweep
pub record IsCheckpoint (desk : DeskId) (taken : List ℕ) (p q : Pass) (told : Result Told Refused) : Type 0 where
  pub none : taken ≡ []
  pub checks : ChecksTo desk p q told
  pub knows : Knows desk p q told
  pub undrafted : NoDraftIsNew (number_of p) (mark_of p) (mark_of q)
  pub unswept : IsAlone p → sweeps_in (mark_of q) ≡ sweeps_in (mark_of p)
  pub grows : Grows (mark_of p) (mark_of q)

-- what is asked is read in a turn of this call, from all that the pass knows of: what it had seen, and then entries of others
pub record IsReading (desk : DeskId) (ask : Ask) (taken : List ℕ) (p q : Pass) (told : Result Told Refused) : Type 0 where
  pub none : taken ≡ []
  pub reads : Reads sha256 (book_of desk q) ask told
  pub follows : Follows (number_of p) (seen p) (seen q)
  pub knew : known p ≤ place_after desk.opened (seen q)
  pub knows : known q ≡ place_after desk.opened (seen q)
  pub turn : turn_of p < turn_of q
  pub linked : Linked (number_of p) (mark_of p) (mark_of q)
  pub still : IsAlone p → mark_of q ≡ mark_of p
  pub grows : Grows (mark_of p) (mark_of q)

-- no call is made: the refusal is that of the bytes, or want of memory
pub record IsRefusal (wants : Result Wanted Refusal) (taken : List ℕ) (p q : Pass) (told : Result Told Refused) : Type 0 where
  pub none : taken ≡ []
  pub stays : q ≡ p
  pub refused : Refused
  pub told_is : told ≡ Err refused
  pub by_bytes : ByBytes (Err refused) wants

-- a call, by what is wanted
abbrev pub IsCall : DeskId → ℕ → Result Wanted Refusal → List ℕ → Pass → Pass → Result Told Refused → Type 0
IsCall desk attempts (Ok (Change command)) taken p q told = IsChange desk attempts command taken p q told
IsCall desk attempts (Ok (Collect policy)) taken p q told = IsCollection desk policy taken p q told
IsCall desk attempts (Ok Checkpoint) taken p q told = IsCheckpoint desk taken p q told
IsCall desk attempts (Ok (Read ask)) taken p q told = IsReading desk ask taken p q told
IsCall desk attempts (Err why) taken p q told = ⊥

-- what is told of what is wanted, once these readings were taken
abbrev pub Comes : DeskId → ℕ → Result Wanted Refusal → List ℕ → Pass → Pass → Result Told Refused → Type 0
Comes desk attempts wants taken p q told = IsCall desk attempts wants taken p q told ⊎ IsRefusal wants taken p q told

-- the same of a request, by what the clock tells
abbrev pub ComesTo : DeskId → ℕ → Message → Pass → Option Readings → Result Told Refused → Pass → Option Readings → Type 0
ComesTo desk attempts m p ahead told q now = (taken : List ℕ) × Took taken ahead now × Comes desk attempts (wanted m) taken p q told

-- ---- one request after another

-- a request that was answered: the readings that were taken, what was told, the bytes of its reply, the pass before it and after it, and the entries that it made
pub record Visit : Type 0 where
  pub message : Message
  pub taken : List ℕ
  pub told : Result Told Refused
  pub reply : List ℕ
  pub before : Pass
  pub after : Pass
  pub made : List LogEntry

-- what was told of it is what its call comes to
abbrev pub IsAnswered : DeskId → ℕ → Visit → Type 0
IsAnswered desk attempts v = Comes desk attempts (wanted v.message) v.taken v.before v.after v.told

-- it was answered on a pass that stood so and then so, where so many requests may follow
pub record IsVisit (desk : DeskId) (attempts left : ℕ) (p : Pass) (ahead : Option Readings) (v : Visit) (q : Pass) (now : Option Readings) : Type 0 where
  pub before : v.before ≡ p
  pub after : v.after ≡ q
  pub number : number_of q ≡ number_of p
  pub took : Took v.taken ahead now
  pub comes : IsAnswered desk attempts v
  pub makes : Makes desk (wanted v.message) v.taken v.before v.after v.told v.made
  pub replies : RepliesTo (asks_to_close v.message || left == 0) (is_head v.message) v.told v.reply

-- where a session stands: how many requests it still answers, its pass, and what the clock, the source and the sink tell
pub record Place : Type 0 where
  pub left : ℕ
  pub pass : Pass
  pub ahead : Option Readings
  pub bytes : Option (List ℕ)
  pub held : Option (List ℕ)

abbrev pub place : ℕ → Pass → Option Readings → Option (List ℕ) → Option (List ℕ) → Place
place left pass ahead bytes held = record { left = left; pass = pass; ahead = ahead; bytes = bytes; held = held }

-- the request is the next of the bytes, where the source tells them
abbrev pub IsNextOf : Option (List ℕ) → Message → Option (List ℕ) → Type 0
IsNextOf bytes m after = (b : List ℕ) → bytes ≡ Some b → (rest : List ℕ) × (after ≡ Some rest) × IsRequest b m rest

-- the next request is read and answered
pub record Visits (desk : DeskId) (attempts : ℕ) (a : Place) (v : Visit) (c : Place) : Type 0 where
  pub left : a.left ≡ c.left + 1
  pub reads : IsNextOf a.bytes v.message c.bytes
  pub is : IsVisit desk attempts c.left a.pass a.ahead v c.pass c.ahead

-- from a the session goes on to c by these, each of which is told whole, and none of which asks for its end
abbrev pub GoesBy : DeskId → ℕ → List Visit → Place → Place → Type 0
GoesBy desk attempts [] a c = a ≡ c
GoesBy desk attempts (v ∷ visits) a c =
    (b : Place) × Visits desk attempts a v b × (asks_to_close v.message ≡ false) × Appends a.held b.held v.reply × GoesBy desk attempts visits b c

-- ---- how it ends at the place that it reached

-- what is written of the last reply: all of it where its request closes, a front where a write failed, and nothing where no memory is left for the text of what must be told
abbrev pub TellsLast : End → Visit → List ℕ → Type 0
TellsLast ends.Closed v tail = (asks_to_close v.message ≡ true) × (tail ≡ v.reply)
TellsLast ends.WriteFault v tail = (n : ℕ) × (tail ≡ take n v.reply)
TellsLast ends.NoMemory v tail = (must_be_told v.told ≡ true) × (tail ≡ [])
TellsLast _ v tail = ⊥

-- what comes next is refused by its bytes, where the source tells them
abbrev pub IsRefusedBy : Option (List ℕ) → Refusal → Type 0
IsRefusedBy bytes (BadRequest BadHead) = IfSome bytes IsMalformed
IsRefusedBy bytes TooLarge = IfSome bytes IsTooLarge
IsRefusedBy bytes _ = ⊥

-- no request more is answered, and that is written; the source has left those bytes, which before the first of 1,000 requests are all
abbrev pub TellsNone : End → Place → Option (List ℕ) → List ℕ → Type 0
TellsNone ends.Closed c unread tail = (0 < c.left) × IfSome c.bytes IsEnd × (tail ≡ [])
TellsNone ends.Capped c unread tail = (c.left ≡ 0) × (tail ≡ [])
TellsNone ends.BadHead c unread tail = (0 < c.left) × IsRefusedBy c.bytes (BadRequest BadHead) × IsRefusalOf (BadRequest BadHead) tail
TellsNone ends.TooLarge c unread tail = (0 < c.left) × IsRefusedBy c.bytes TooLarge × IsRefusalOf TooLarge tail
TellsNone ends.ReadFault c unread tail = (0 < c.left) × ((b : List ℕ) → c.bytes ≡ Some b → LeavesCut b unread) × (tail ≡ [])
TellsNone ends.WriteFault c unread tail = (0 < c.left) × (why : Refusal) × IsRefusedBy c.bytes why × (bytes : List ℕ) × IsRefusalOf why bytes × (n : ℕ) × (tail ≡ take n bytes)
TellsNone ends.NoMemory c unread tail = (c.left ≡ 1000) × (unread ≡ c.bytes) × (tail ≡ [])

-- none more was answered, or one
abbrev pub EndsBy : DeskId → ℕ → Place → End → Option (List ℕ) → List Visit → List ℕ → Place → Type 0
EndsBy desk attempts c end unread [] tail z = (z.pass ≡ c.pass) × (z.ahead ≡ c.ahead) × TellsNone end c unread tail
EndsBy desk attempts c end unread (v ∷ []) tail z = Visits desk attempts c v z × TellsLast end v tail
EndsBy desk attempts c end unread (v ∷ w ∷ more) tail z = ⊥

-- it ended so at c, and left the pass, the clock and the sink so
pub record EndsAs (desk : DeskId) (attempts : ℕ) (c : Place) (end : End) (unread : Option (List ℕ)) (pass : Pass) (now : Option Readings) (held : Option (List ℕ)) : Type 0 where
  pub left : ℕ
  pub rest : Option (List ℕ)
  pub last : List Visit
  pub tail : List ℕ
  pub ends : EndsBy desk attempts c end unread last tail (place left pass now rest held)
  pub written : Appends c.held held tail

-- a session that begins at a went by these visits to c, and there it ended so
pub record Went (desk : DeskId) (attempts : ℕ) (a : Place) (end : End) (unread : Option (List ℕ)) (pass : Pass) (now : Option Readings) (held : Option (List ℕ)) : Type 0 where
  pub visits : List Visit
  pub c : Place
  pub goes : GoesBy desk attempts visits a c
  pub ended : EndsAs desk attempts c end unread pass now held
