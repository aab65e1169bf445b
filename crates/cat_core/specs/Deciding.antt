-- What was decided of a call in its turn, and what its change makes of a book.
use Rattle.std.specs.Prelude.{◌+◌, Result, Ok, Err, IsTrue}
use Rattle.sha2.specs.Sha256.{sha256}
use Rattle.cat_frames.specs.Entries.{is_logged}
use Rattle.cat_model.specs.declared.command.Command.{Command}
use Rattle.cat_model.specs.declared.log_entry.LogEntry.{LogEntry}
use Rattle.cat_model.specs.declared.reply.Told.{Told}
use Rattle.cat_model.specs.Book.{Book}
use Rattle.cat_decisions.specs.declared.decision.Decision.{Decision}
use Rattle.cat_decisions.specs.declared.decision.Decision.TheVariants as decisions
use Rattle.cat_decisions.specs.declared.decision.Making.{Making}
use Rattle.cat_decisions.specs.Decisions.{Decides}
use Rattle.cat_state.specs.declared.failure.Failure.{Failure}
use Rattle.cat_state.specs.Changing.{applied}
use Rattle.cat_core.specs.declared.ledger.logging.Turn.{Turn}
use Rattle.cat_core.specs.Making.{entry_at, with_entry}
use Rattle.cat_core.specs.Turns.{turned_step}

-- ---- a change that a call comes to

-- its entry
abbrev pub made_entry : Book → Turn → Making → LogEntry
made_entry book turn m = entry_at book turn m.command m.head

-- the book after it
abbrev pub made_book : Book → Turn → Making → Book
made_book book turn m = with_entry book (applied book.state m.change) (made_entry book turn m)

-- what is told of it
abbrev pub made_told : Book → Making → Told
made_told book m = record { place = book.state.place + 1; reply = m.reply }

-- ---- what was decided

-- the entry of a change has a spelling
abbrev pub MayBeLogged : Book → Turn → Result Decision Failure → Type 0
MayBeLogged book turn (Ok (decisions.Told reply)) = Unit {0}
MayBeLogged book turn (Ok (decisions.Made m)) = IsTrue (is_logged sha256 (made_entry book turn m))
MayBeLogged book turn (Err failure) = Unit {0}

-- it is what the command's step in the turn comes to, and may be logged
pub record IsDecided (book : Book) (turn : Turn) (command : Command) (decided : Result Decision Failure) : Type 0 where
  pub decides : Decides turn.draft book.state command (turned_step book turn command) decided
  pub logged : MayBeLogged book turn decided
