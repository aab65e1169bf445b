-- What answering one request does, where the keeper and the sink tell what they have.
use Rattle.std.specs.Prelude.{ℕ, ◌+◌, ◌≡◌, ◌⊎◌, List, [], Option, Some, None, Bool, false, Result, Err}
use Rattle.cat_model.specs.declared.refusal.Refusal.TheVariants.{NoMemory}
use Rattle.cat_model.specs.declared.refusal.Refused.{Refused}
use Rattle.cat_model.specs.declared.reply.Told.{Told}
use Rattle.cat_model.specs.Requests.{Brought}
use Rattle.cat_http.specs.Message.{Message}
use Rattle.cat_http.specs.Next.{IsRequest}
use Rattle.cat_rest.specs.Wanted.{wanted}
use Rattle.cat_desk.specs.Pass.{DeskId}
use Rattle.cat_desk.specs.declared.pass.Pass.{Pass}
use Rattle.cat_serve.specs.declared.ending.Session.{Session as End}
use Rattle.cat_serve.specs.Replies.{must_be_told, said_bytes}
use Rattle.cat_serve.specs.Sessions.{Readings, Standing, Point, Turn, MayComeTo, Answered, BeginsAt, EndsAt, HasTaken, IsAt, Stands, Took, asks_to_close}

-- the refusal of a call that was given up for want of memory
abbrev pub given_up : Refused
given_up = record { place = None; why = NoMemory }

-- what a request came to and was told; unless that must be told, want of memory may be told in its place
pub record Brings (clock : Readings) (s : Standing) (m : Message) (told : Result Told Refused) (b : Brought) (s' : Standing) : Type 0 where
  pub comes : MayComeTo clock s s.fallen (wanted m) b s'
  pub said : b.said ≡ told
  pub or_given_up : must_be_told told ≡ false → MayComeTo clock s s.fallen (wanted m) (record { said = Err given_up; logged = []; after = b.after }) s'

-- what a request brings where the pass stands so, by all readings that go on with those that were taken
abbrev pub SaysWith : List ℕ → DeskId → Message → Pass → Result Told Refused → Pass → Type 0
SaysWith taken desk m pass told pass' =
    (clock : Readings) (s : Standing) → IsAt desk s pass → BeginsAt s.session.readings clock taken
    → (b : Brought) × (s' : Standing) × Brings clock s m told b s' × IsAt desk s' pass' × HasTaken taken s s'

-- what a pass and a clock do at a request
abbrev pub SaysTo : DeskId → Message → Pass → Option Readings → Result Told Refused → Pass → Option Readings → Type 0
SaysTo desk m pass ahead told pass' now = (taken : List ℕ) × Took taken ahead now × SaysWith taken desk m pass told pass'

-- the reply is that of what was told, or tells want of memory where that needn't be told
abbrev pub RepliesTo : Bool → Bool → Result Told Refused → List ℕ → Type 0
RepliesTo close head_only told bytes =
    (bytes ≡ said_bytes close head_only told)
    ⊎ ((must_be_told told ≡ false) × (bytes ≡ said_bytes close head_only (Err given_up)))

-- a request that is answered at c: its message, and what follows it
pub record IsAsked (desk : DeskId) (c : Point) (left : ℕ) (m : Message) (rest : List ℕ) (pass : Pass) (held : Option (List ℕ)) : Type 0 where
  pub reads : IsRequest c.bytes m rest
  pub one_more : c.left ≡ left + 1
  pub pass_at : IsAt desk c.standing pass
  pub held_is : held ≡ Some c.written

-- the request is answered, and the session goes on
pub record IsAnswered (desk : DeskId) (taken : List ℕ) (clock : Readings) (c : Point) (left : ℕ) (rest : List ℕ) (t : Turn) (pass : Pass) (held : Option (List ℕ)) : Type 0 where
  pub answered : Answered clock c t
  pub goes_on : asks_to_close t.message ≡ false
  pub left_is : t.after.left ≡ left
  pub bytes_are : t.after.bytes ≡ rest
  pub pass_at : IsAt desk t.after.standing pass
  pub takes : HasTaken taken c.standing t.after.standing
  pub held_is : held ≡ Some t.after.written

-- one more request was answered, and the session goes on
pub record GoesTo (desk : DeskId) (taken : List ℕ) (clock : Readings) (c : Point) (left : ℕ) (t : Turn) (pass : Pass) (bytes held : Option (List ℕ)) : Type 0 where
  pub answered : Answered clock c t
  pub goes_on : asks_to_close t.message ≡ false
  pub left_is : t.after.left ≡ left
  pub takes : HasTaken taken c.standing t.after.standing
  pub stands : Stands desk t.after pass bytes held

-- the session ended so at c
abbrev pub LeavesAt : DeskId → List ℕ → Readings → Point → End → Pass → Option (List ℕ) → Type 0
LeavesAt desk taken clock c end pass held =
    (h : List ℕ) × (held ≡ Some h) × (last : Standing) × EndsAt clock c end h last × IsAt desk last pass × HasTaken taken c.standing last
