-- A call in its turn.
use Rattle.std.specs.Prelude.{max}
use Rattle.sha2.specs.Sha256.{sha256}
use Rattle.cat_model.specs.declared.command.Command.{Command}
use Rattle.cat_model.specs.Book.{Book}
use Rattle.cat_model.specs.Calls.{Called, stepped}
use Rattle.cat_model.specs.Refusing.{Outcome}
use Rattle.cat_model.specs.Step as steps
use Rattle.cat_model.specs.Step.{step}
use Rattle.cat_core.specs.declared.ledger.logging.Turn.{Turn}

-- when a call is made in its turn
abbrev pub begun : Turn → steps.Turn
begun turn = record { draft = turn.draft; opened = turn.opened; moment = turn.moment }

-- its step on the book
abbrev pub turned_step : Book → Turn → Command → Outcome
turned_step book turn command = step sha256 book.state command (begun turn)

-- what it brings, where the tests before its draft are passed
abbrev pub turned : Book → Turn → Command → Called
turned book turn command = stepped sha256 turn.caller book.state (max book.draft turn.draft) command (begun turn) (turned_step book turn command)
