-- What making the call of an entry again returns and leaves.
use Rattle.std.specs.Prelude.{◌≡◌, [], Some, Result, Ok, Err}
use Rattle.sha2.specs.Sha256.{sha256}
use Rattle.cat_model.specs.declared.command.Command.{Command}
use Rattle.cat_model.specs.declared.log_entry.LogEntry.{LogEntry}
use Rattle.cat_model.specs.declared.reply.Told.{Told}
use Rattle.cat_model.specs.Book.{Book, IsCalled}
use Rattle.cat_model.specs.Calls.{Called}
use Rattle.cat_model.specs.Refusing.{◌>>=◌, Outcome}
use Rattle.cat_model.specs.Step.{opening}
use Rattle.cat_state.specs.declared.failure.Failure.{Failure}
use Rattle.cat_state.specs.declared.failure.Failure.TheVariants.{NoMemory, Refused}
use Rattle.cat_core.specs.declared.ledger.logging.Turn.{Turn}
use Rattle.cat_core.specs.Turns.{turned_step}

-- the turn of an entry's call, made again by nobody, begun at the book's place
abbrev pub own_turn : Book → LogEntry → Turn
own_turn book entry = record { caller = 0; draft = entry.draft; opened = book.state.place; moment = entry.moment }

-- the step of its call in its own draft
abbrev pub own_step : Book → LogEntry → Command → Outcome
own_step book entry command = turned_step book (own_turn book entry) command

-- what the call comes to: a refusal by the tests before its draft, or its step
abbrev pub comes_again : Book → LogEntry → Command → Outcome
comes_again book entry command = opening sha256 book.state command >>= λ _. own_step book entry command

-- what is told is what the call brings, and so is the book after it; or the call is refused, and brings no entry; or memory ran out
abbrev pub Remakes : Called → Book → Book → Result Told Failure → Type 0
Remakes called before after (Ok told) = IsCalled called before after (Ok told)
Remakes called before after (Err NoMemory) = Unit {0}
Remakes called before after (Err (Refused why)) = (called.said ≡ Err (record { place = Some before.state.place; why = why })) × (called.logged ≡ [])
