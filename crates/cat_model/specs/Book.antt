-- What a store holds, and what its calls do to it.
use Rattle.std.specs.Prelude.{◌≡◌, ◌≤◌, ℕ, ◌+◌, List, [], ◌++◌, None, Result, Ok, Err}
use Rattle.cat_model.specs.declared.ask.Ask.{Ask}
use Rattle.cat_model.specs.declared.command.Command.{Command}
use Rattle.cat_model.specs.declared.limits.Limits.{Limits}
use Rattle.cat_model.specs.declared.log_entry.LogEntry.{LogEntry}
use Rattle.cat_model.specs.declared.refusal.Refusal.{Refusal}
use Rattle.cat_model.specs.declared.refusal.Refusal.TheVariants.{NoMemory}
use Rattle.cat_model.specs.declared.refusal.Refused.{Refused}
use Rattle.cat_model.specs.declared.reply.Told.{Told}
use Rattle.cat_model.specs.State.{Digest, State, first_state}
use Rattle.cat_model.specs.Answer.{answer}
use Rattle.cat_model.specs.Calls.{Called, Occasion, attempt, call, told_at}

-- the state, the last draft number, the entries that led to the state, the newest first, and the state that these started from
pub record Book : Type 0 where
  pub state : State
  pub draft : ℕ
  pub log : List LogEntry
  pub base : State

-- the book of an empty catalogue
abbrev pub first_book : Digest → Limits → Book
first_book digest limits = record { state = first_state digest limits; draft = 0; log = []; base = first_state digest limits }

-- a book after what a call brought
abbrev pub after_call : Book → Called → Book
after_call book c = record book { state = c.state; draft = c.draft; log = c.logged ++ book.log }

-- an attempt at a command on a book
abbrev pub attempt_on : Digest → Book → Occasion → Command → Called
attempt_on digest book o command = attempt digest book.state book.draft o command

-- the call of a command on a book
abbrev pub call_on : Digest → ℕ → Book → Command → ℕ → Called
call_on digest caller book command moment = call digest caller book.state book.draft command moment

-- ---- reading

-- a refusal of a reading call, by its cause: want of memory has no place
abbrev pub ReadRefuses : Digest → Book → Ask → Refusal → Refused → Type 0
ReadRefuses digest book ask NoMemory refused = refused.place ≡ None
ReadRefuses digest book ask _ refused = told_at book.state (answer digest book.state ask) ≡ Err refused

-- what reading a book tells, unless memory runs out
abbrev pub Reads : Digest → Book → Ask → Result Told Refused → Type 0
Reads digest book ask (Ok told) = told_at book.state (answer digest book.state ask) ≡ Ok told
Reads digest book ask (Err refused) = ReadRefuses digest book ask refused.why refused

-- ---- changing

-- what was told is what the call brings, and so is the book after it
pub record IsCalled (called : Called) (before after : Book) (told : Result Told Refused) : Type 0 where
  pub said : called.said ≡ told
  pub book : after ≡ after_call before called

-- a call was given up for want of memory: it made no entry and changed no state; it may have taken its draft number
pub record IsGivenUp (before after : Book) (refused : Refused) : Type 0 where
  pub place : refused.place ≡ None
  pub state : after.state ≡ before.state
  pub log : after.log ≡ before.log
  pub draft_kept : before.draft ≤ after.draft
  pub draft_taken : after.draft ≤ before.draft + 1

-- a refusal of a changing call, by its cause
abbrev pub CallRefuses : Called → Book → Book → Refusal → Refused → Type 0
CallRefuses called before after NoMemory refused = IsGivenUp before after refused
CallRefuses called before after _ refused = IsCalled called before after (Err refused)

-- what a call does to a book and tells, unless memory runs out
abbrev pub Applies : Called → Book → Book → Result Told Refused → Type 0
Applies called before after (Ok told) = IsCalled called before after (Ok told)
Applies called before after (Err refused) = CallRefuses called before after refused.why refused
