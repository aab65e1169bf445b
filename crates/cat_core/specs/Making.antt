-- What a call that may change a book returns and leaves.
use Rattle.std.specs.Prelude.{◌≡◌, ℕ, ◌+◌, [], ◌∷◌, Option, Some, None, Result, Ok, Err, max, ◌≤◌}
use Rattle.cat_names.specs.declared.hash.Hash.{Hash}
use Rattle.cat_model.specs.declared.command.Command.{Command}
use Rattle.cat_model.specs.declared.log_entry.Action.TheVariants as actions
use Rattle.cat_model.specs.declared.log_entry.LogEntry.{LogEntry}
use Rattle.cat_model.specs.declared.refusal.Refusal.TheVariants as refusals
use Rattle.cat_model.specs.declared.refusal.Refused.{Refused}
use Rattle.cat_model.specs.declared.reply.Told.{Told}
use Rattle.cat_model.specs.Book.{Book, IsCalled}
use Rattle.cat_model.specs.Calls.{Called}
use Rattle.cat_model.specs.State.{State}
use Rattle.cat_state.specs.declared.failure.Failure.{Failure}
use Rattle.cat_state.specs.declared.failure.Failure.TheVariants as failures
use Rattle.cat_core.specs.PlainLaws.{IsOther}
use Rattle.cat_core.specs.declared.ledger.logging.Turn.{Turn}
use Rattle.cat_state.specs.declared.unmade.Unmade.{Unmade}
use Rattle.cat_state.specs.declared.unmade.Unmade.TheVariants.{Failed, NotKept}

-- a failure as the refusal of a call at a place; want of memory has none
abbrev pub refused_at : ℕ → Failure → Refused
refused_at place failures.NoMemory = record { place = None; why = refusals.NoMemory }
refused_at place (failures.Refused why) = record { place = Some place; why = why }

-- why a call made no entry, as its refusal at a place
abbrev pub unmade_at : ℕ → Unmade → Refused
unmade_at place NotKept = record { place = Some place; why = refusals.Fault }
unmade_at place (Failed failure) = refused_at place failure

-- the book once the draft number is taken: the last is the greatest
abbrev pub taking : Book → ℕ → Book
taking book draft = record book { draft = max book.draft draft }

-- the entry of a call that a book accepts
abbrev pub entry_at : Book → Turn → Command → Option Hash → LogEntry
entry_at book turn command head = record { place = book.state.place + 1; caller = turn.caller; draft = turn.draft; moment = turn.moment; action = actions.Call command; head = head }

-- the book at the state that follows, with one entry more
abbrev pub with_entry : Book → State → LogEntry → Book
with_entry book after entry = record book { state = after; log = entry ∷ book.log }

-- ---- what was made, or why nothing was

-- the entry of an accepted call wasn't kept: state and log are as before, and the draft number is the call's
pub record IsNotKept (called : Called) (before after : Book) : Type 0 where
  pub entry : LogEntry
  pub logged : called.logged ≡ entry ∷ []
  pub state : after.state ≡ before.state
  pub log : after.log ≡ before.log
  pub base : after.base ≡ before.base
  pub draft : after.draft ≡ called.draft

-- memory ran out: state and log are as before, and the draft number is taken at most
pub record IsSpared (called : Called) (before after : Book) : Type 0 where
  pub state : after.state ≡ before.state
  pub log : after.log ≡ before.log
  pub base : after.base ≡ before.base
  pub kept : before.draft ≤ after.draft
  pub taken : after.draft ≤ called.draft

-- what running a call on an occasion returned and left, against what it brings
abbrev pub Runs : Called → Book → Book → Result Told Unmade → Type 0
Runs called before after (Ok told) = IsCalled called before after (Ok told)
Runs called before after (Err NotKept) = IsNotKept called before after
Runs called before after (Err (Failed failures.NoMemory)) = IsSpared called before after
Runs called before after (Err (Failed (failures.Refused why))) = IsOther why × IsCalled called before after (Err (record { place = Some before.state.place; why = why }))
