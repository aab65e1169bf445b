-- What a session promises on any pass of its desk, whatever other callers do at once.
use Rattle.std.specs.Prelude.{ℕ, ◌≡◌, List, [], ◌∷◌, ◌++◌, flat_map, Option}
use Rattle.std.specs.Io.KnownBytes.{Appends}
use Rattle.cat_checks.specs.Histories.{IsLegalFrom}
use Rattle.cat_desk.specs.Log.{BeginsWith, Follows}
use Rattle.cat_desk.specs.Pass.{DeskId, HasNumber, mark_of, number_of, seen}
use Rattle.cat_desk.specs.declared.pass.Pass.{Pass}
use Rattle.cat_model.specs.declared.log_entry.LogEntry.{LogEntry}
use Rattle.cat_model.specs.Mark.{Grows}
use Rattle.cat_work.specs.Answers.{NoFaultIsNew}
use Rattle.cat_serve.specs.declared.ending.Session.{Session as End}
use Rattle.cat_serve.specs.Entries.{entries_of}
use Rattle.cat_serve.specs.Passes.{IsAnswered, Place, Visit, Went}
use Rattle.cat_serve.specs.Sessions.{Readings}

-- the replies to these, one behind another
abbrev pub replies_of : List Visit → List ℕ
replies_of visits = flat_map (λ (v : Visit). v.reply) visits

-- the entries that these made, in their order
abbrev pub made_by : List Visit → List LogEntry
made_by visits = flat_map (λ (v : Visit). v.made) visits

-- what was told at each is what its call comes to
abbrev pub AreAnswered : DeskId → ℕ → List Visit → Type 0
AreAnswered desk attempts [] = Unit {0}
AreAnswered desk attempts (v ∷ visits) = IsAnswered desk attempts v × AreAnswered desk attempts visits

-- a pass came to stand so: what it has then seen begins with what it had, and its mark grew
abbrev pub GrowsTo : Pass → Pass → Type 0
GrowsTo p q = BeginsWith (seen p) (seen q) × Grows (mark_of p) (mark_of q)

-- a pass with this number was taken in as it stood, and the one that has the number then stands so: what it has seen more is of others, and its mark tells no fault of this number that is new
pub record TakenIn (number : ℕ) (p q : Pass) : Type 0 where
  pub has : HasNumber number q
  pub follows : Follows number (seen p) (seen q)
  pub faults : NoFaultIsNew number (mark_of p) (mark_of q)

-- from one pass to the last by these: what was seen after each begins with what was seen before it, and what is seen at the end with both; and so the mark grew
abbrev pub Rises : Pass → List Visit → Pass → Type 0
Rises p [] q = q ≡ p
Rises p (v ∷ visits) q = (v.before ≡ p) × GrowsTo v.before v.after × GrowsTo v.after q × Rises v.after visits q

-- a session that begins at a ends so, and leaves the bytes of the source, the pass, the clock and the sink so
pub record Serves (desk : DeskId) (attempts : ℕ) (a : Place) (end : End) (unread : Option (List ℕ)) (pass : Pass) (now : Option Readings) (held : Option (List ℕ)) : Type 0 where
  -- it answered these requests, one after another, and ended for the cause of its end
  pub went : Went desk attempts a end unread pass now held
  -- every reply is rendered, in order: those of all these, and what was written of the last
  pub replies : Appends a.held held (replies_of went.visits ++ went.ended.tail)
  -- what was told of each is what its call comes to, at its place
  pub answers : AreAnswered desk attempts (went.visits ++ went.ended.last)
  -- in one legal log, which the pass has seen at the end, and a beginning of it at each
  pub legal : IsLegalFrom desk.opened (seen pass)
  pub rises : Rises a.pass (went.visits ++ went.ended.last) pass
  -- which starts with the log that the desk was made with
  pub starts : BeginsWith desk.begun (seen pass)
  -- has of the caller's entries those of before, and then that of each accepted call, once, in order
  pub once : entries_of (number_of a.pass) (seen pass) ≡ entries_of (number_of a.pass) (seen a.pass) ++ made_by (went.visits ++ went.ended.last)
  -- and begins with all that its caller had seen
  pub begins : BeginsWith (seen a.pass) (seen pass)
  -- the mark of the pass grew
  pub marks : Grows (mark_of a.pass) (mark_of pass)
