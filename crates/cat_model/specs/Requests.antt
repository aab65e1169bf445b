-- What one request of a session brings.
use Rattle.std.specs.Prelude.{◌≡◌, ◌≤◌, ◌⊎◌, ℕ, ◌+◌, ◌==◌, List, [], length, Option, None, Result, Ok, Err}
use Rattle.std.specs.Option.{option_map}
use Rattle.cat_model.specs.declared.ask.Ask.{Ask}
use Rattle.cat_model.specs.declared.command.Command.{Command}
use Rattle.cat_model.specs.declared.cutoff.Resolved.{Resolved}
use Rattle.cat_model.specs.declared.limits.Quantity.TheVariants as quantities
use Rattle.cat_model.specs.declared.log_entry.LogEntry.{LogEntry}
use Rattle.cat_model.specs.declared.refusal.Refusal.{Refusal}
use Rattle.cat_model.specs.declared.refusal.Refusal.TheVariants.{NoMemory, OldFormat}
use Rattle.cat_model.specs.declared.refusal.Refused.{Refused}
use Rattle.cat_model.specs.declared.reply.Reply.{Reply}
use Rattle.cat_model.specs.declared.reply.Reply.TheVariants as replies
use Rattle.cat_model.specs.declared.reply.Told.{Told}
use Rattle.cat_model.specs.State.{Digest}
use Rattle.cat_model.specs.Answer.{answer}
use Rattle.cat_model.specs.Book.{Book, after_call, call_on}
use Rattle.cat_model.specs.Calls.{Called, told_at}
use Rattle.cat_model.specs.Drafts.{no_names}
use Rattle.cat_model.specs.Past.{swept_on}
use Rattle.cat_model.specs.Refusing.{◌>>=◌, needs, needs_at_most}

-- what a request wants: to read, to change, to remove what a policy doesn't keep, which depends on the moment, or to write the state into the journal
pub data Wants : Type 0 where
  Read : Ask → Wants
  Change : Command → Wants
  Collect : (ℕ → Resolved) → Wants
  Checkpoint : Wants

-- what a session needs to know of its journal: the format, the place of the last checkpoint, 0 where there is none, how many there are, and the payload of a book's checkpoint, while no draft is open
pub record Journal : Type 0 where
  pub format : ℕ
  pub base : ℕ
  pub bases : Option ℕ
  pub payload : Book → List ℕ

-- a session on one pass: its book, how many moments it has taken, and its journal
pub record Session : Type 0 where
  pub book : Book
  pub readings : ℕ
  pub journal : Journal

-- what a request brings: what it is told, its entry if it is accepted, and the session after it
pub record Brought : Type 0 where
  pub said : Result Told Refused
  pub logged : List LogEntry
  pub after : Session

-- a request that changes nothing
abbrev pub said_only : Session → Result Told Refused → Brought
said_only s said = record { said = said; logged = []; after = s }

-- what a call brings; it has taken a moment
abbrev pub brought : Session → Called → Brought
brought s c = record { said = c.said; logged = c.logged; after = record s { book = after_call s.book c; readings = s.readings + 1 } }

-- what a checkpoint of a session's state answers: it is refused in an old format, and then where its payload would be too long. Between the requests of a session no sweep is open
abbrev pub checkpoint_answer : Session → Result Reply Refusal
checkpoint_answer s =
    needs (s.journal.format == 2) OldFormat >>= λ _.
    needs_at_most (length (s.journal.payload s.book)) 4294967295 quantities.Checkpoint >>= λ _.
    Ok (replies.Checkpoint s.book.state.place)

-- what it brings: it takes no moment and no draft number, makes no entry and keeps the state, which is the last checkpoint then
abbrev pub checkpointed : Session → Result Reply Refusal → Brought
checkpointed s (Err why) = said_only s (told_at s.book.state (Err why))
checkpointed s (Ok reply) = record {
  said = told_at s.book.state (Ok reply);
  logged = [];
  after = record s { journal = record (s.journal) { base = s.book.state.place; bases = option_map (λ (n : ℕ). n + 1) s.journal.bases } };
}

-- one request, which is refused already where its bytes are; the moments are the clock's. A collection is opened at the session's state, where no draft is open
abbrev pub request : Digest → ℕ → (ℕ → ℕ) → Session → Result Wants Refusal → Brought
request digest caller clock s (Err why) = said_only s (Err (record { place = None; why = why }))
request digest caller clock s (Ok (Read ask)) = said_only s (told_at s.book.state (answer digest s.book.state ask))
request digest caller clock s (Ok (Change command)) = brought s (call_on digest caller s.book command (clock s.readings))
request digest caller clock s (Ok (Collect policy)) = brought s (swept_on digest caller s.book (policy (clock s.readings)) no_names (clock s.readings))
request digest caller clock s (Ok Checkpoint) = checkpointed s (checkpoint_answer s)

-- ---- want of memory

-- a request that is refused for want of memory makes no entry and no checkpoint, and changes no state; it may have taken a moment, a draft number, or both
pub record IsGivenUp (before : Session) (b : Brought) : Type 0 where
  pub said : b.said ≡ Err (record { place = None; why = NoMemory })
  pub logged : b.logged ≡ []
  pub state : b.after.book.state ≡ before.book.state
  pub log : b.after.book.log ≡ before.book.log
  pub base : b.after.book.base ≡ before.book.base
  pub journal : b.after.journal ≡ before.journal
  pub draft_kept : before.book.draft ≤ b.after.book.draft
  pub draft_taken : b.after.book.draft ≤ before.book.draft + 1
  pub reading_kept : before.readings ≤ b.after.readings
  pub reading_taken : b.after.readings ≤ before.readings + 1

-- what one request may bring
abbrev pub MayBring : Digest → ℕ → (ℕ → ℕ) → Session → Result Wants Refusal → Brought → Type 0
MayBring digest caller clock s wants b = (b ≡ request digest caller clock s wants) ⊎ IsGivenUp s b
