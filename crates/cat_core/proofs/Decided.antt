-- What was decided of a call that is well made may be carried out.
use Rattle.std.proofs.Common.{◌≡◌, ◌+◌, true, is_some, Result, Ok, Err, subst}
use Rattle.sha2.specs.Sha256.{sha256}
use Rattle.cat_checks.specs.LeadingLaws.{TellsHead, step_tells}
use Rattle.cat_model.specs.declared.command.Command.{Command}
use Rattle.cat_model.specs.Book.{Book}
use Rattle.cat_model.specs.Refusing.{Outcome}
use Rattle.cat_model.specs.State.{State}
use Rattle.cat_model.specs.Step.{head_told, step}
use Rattle.cat_model.specs.WellMade.{is_well_made}
use Rattle.cat_frames.specs.Entries.{is_logged}
use Rattle.cat_decisions.specs.declared.decision.Decision.{Decision}
use Rattle.cat_decisions.specs.declared.decision.Decision.TheVariants as decisions
use Rattle.cat_decisions.specs.declared.decision.Making.{Making}
use Rattle.cat_decisions.specs.Decisions.{Decides, IsMaking}
use Rattle.cat_state.specs.declared.failure.Failure.{Failure}
use Rattle.cat_core.specs.declared.ledger.logging.Turn.{Turn}
use Rattle.cat_core.specs.Deciding.{IsDecided, MayBeLogged, made_entry}
use Rattle.cat_core.specs.LoggedLaws.{IsDraftOf, call_is_logged}
use Rattle.cat_core.specs.Turns.{begun, turned_step}

-- the entry of a change
made_logged : (book : Book) (turn : Turn) (command : Command) (m : Making) → is_well_made sha256 command ≡ true → IsDraftOf command turn.draft → IsMaking turn.draft book.state command (turned_step book turn command) m → is_logged sha256 (made_entry book turn m) ≡ true
made_logged book turn command m made own makes =
    let head : is_some (head_told m.reply) ≡ true = subst (λ (o : Outcome). TellsHead o) makes.step (step_tells sha256 book.state command (begun turn)) in
    rw (makes.command, makes.head) (call_is_logged (book.state.place + 1) turn.caller turn.draft turn.moment command m.reply made own head)

logged : (book : Book) (turn : Turn) (command : Command) (decided : Result Decision Failure) → is_well_made sha256 command ≡ true → IsDraftOf command turn.draft → Decides turn.draft book.state command (turned_step book turn command) decided → MayBeLogged book turn decided
logged book turn command (Err failure) made own decides = tt
logged book turn command (Ok (decisions.Told reply)) made own decides = tt
logged book turn command (Ok (decisions.Made m)) made own makes = made_logged book turn command m made own makes

-- what was decided on the book's state
pub is_decided : (book : Book) (state : State) (turn : Turn) (command : Command) (decided : Result Decision Failure) → is_well_made sha256 command ≡ true → IsDraftOf command turn.draft → state ≡ book.state
    → Decides turn.draft state command (step sha256 state command (begun turn)) decided → IsDecided book turn command decided
is_decided book state turn command decided made own same decides =
    let here : Decides turn.draft book.state command (turned_step book turn command) decided =
    subst (λ (s : State). Decides turn.draft s command (step sha256 s command (begun turn)) decided) same decides in
    record { decides = here; logged = logged book turn command decided made own here }
