-- Calls of entries that are made again, in their own drafts.
use Rattle.std.proofs.Common.{◌≡◌, ℕ, Result, Ok, Err, false, refl, sym, subst}
use Rattle.sha2.specs.Sha256.{sha256}
use Rattle.cat_model.specs.declared.command.Command.{Command}
use Rattle.cat_model.specs.declared.log_entry.Action.{Action}
use Rattle.cat_model.specs.declared.log_entry.Action.TheVariants as actions
use Rattle.cat_model.specs.declared.log_entry.LogEntry.{LogEntry}
use Rattle.cat_model.specs.declared.reply.Told.{Told}
use Rattle.cat_model.specs.Book.{Book, IsCalled}
use Rattle.cat_model.specs.Calls.{Called, attempt}
use Rattle.cat_model.specs.Refusing.{◌>>=◌, Outcome, Tested}
use Rattle.cat_model.specs.State.{State}
use Rattle.cat_model.specs.Step.{Turn, opening, opens_draft, step}
use Rattle.cat_checks.specs.Legal.{replayed_action, replayed_by, replayed_call, turn_of}
use Rattle.cat_decisions.specs.declared.decision.Decision.{Decision}
use Rattle.cat_decisions.specs.declared.decision.Decision.TheVariants as decisions
use Rattle.cat_decisions.specs.Decisions.{Decides}
use Rattle.cat_state.specs.declared.failure.Failure.{Failure}
use Rattle.cat_state.specs.declared.failure.Failure.TheVariants as failures
use Rattle.cat_state.specs.Giving.{Fails}
use Rattle.cat_core.specs.declared.ledger.logging.Turn as turns
use Rattle.cat_core.specs.Turns.{turned, turned_step}
use Rattle.cat_core.specs.Remaking.{Remakes, comes_again, own_step, own_turn}
use Rattle.cat_core.proofs.Turned.{passes}

-- what is decided once the tests before a draft are passed
pub decided_past : (draft : ℕ) (state : State) (command : Command) (tests : Tested) (step : Outcome) (d : Decision) → Decides draft state command (tests >>= λ _. step) (Ok d) → (tests ≡ Ok tt) × Decides draft state command step (Ok d)
decided_past draft state command (Ok u) step d decides = (refl, decides)
decided_past draft state command (Err why) step (decisions.Told reply) decides = absurd cc
decided_past draft state command (Err why) step (decisions.Made m) makes = let no : Err why ≡ Ok _ = makes.step in absurd cc

-- the entry's turn, begun at a place
abbrev pub turn_at : ℕ → LogEntry → turns.Turn
turn_at place entry = record { caller = 0; draft = entry.draft; opened = place; moment = entry.moment }

-- so is its step in that turn
pub decided_at : (book : Book) (entry : LogEntry) (command : Command) (d : Decision) (place : ℕ) → place ≡ book.state.place → Decides entry.draft book.state command (comes_again book entry command) (Ok d)
    → Decides entry.draft book.state command (turned_step book (turn_at place entry) command) (Ok d)
decided_at book entry command d place at decides =
    subst (λ (n : ℕ). Decides entry.draft book.state command (turned_step book (turn_at n entry) command) (Ok d)) (sym at)
    (decided_past entry.draft book.state command (opening sha256 book.state command) (own_step book entry command) d decides).1

-- ---- what an entry's call brings

-- the entry of a command
as_call : (book : Book) (entry : LogEntry) (command : Command) (P : Called → Type 0) → entry.action ≡ actions.Call command → P (replayed_action sha256 book entry (actions.Call command)) → P (replayed_call sha256 book entry)
as_call book entry command P is p = subst (λ (a : Action). P (replayed_action sha256 book entry a)) (sym is) p

fails_by : (book after : Book) (entry : LogEntry) (command : Command) (tests : Tested) (failure : Failure) → Fails failure (tests >>= λ _. own_step book entry command) → Remakes (replayed_by sha256 book entry command tests) book after (Err failure)
fails_by book after entry command tests failures.NoMemory fails = tt
fails_by book after entry command (Err w) (failures.Refused why) fails = let same : w ≡ why = cc in rw same (refl, refl)
fails_by book after entry command (Ok u) (failures.Refused why) fails = rw fails (refl, refl)

command_fails : (book after : Book) (entry : LogEntry) (command : Command) (failure : Failure) → Fails failure (comes_again book entry command) → Remakes (replayed_action sha256 book entry (actions.Call command)) book after (Err failure)
unfolding attempt
command_fails book after entry command failure fails = fails_by book after entry command (opening sha256 book.state command) failure fails

-- it is refused, or memory ran out
pub replay_fails : (book after : Book) (entry : LogEntry) (command : Command) (failure : Failure) → entry.action ≡ actions.Call command → Fails failure (comes_again book entry command) → Remakes (replayed_call sha256 book entry) book after (Err failure)
replay_fails book after entry command failure is fails = as_call book entry command (λ c. Remakes c book after (Err failure)) is (command_fails book after entry command failure fails)

-- one that opens no draft comes to its step
pub undrafted_comes : (book : Book) (state : State) (entry : LogEntry) (command : Command) (result : Result Decision Failure) → opens_draft command ≡ false → state ≡ book.state
    → ((turn : Turn) → Decides turn.draft state command (step sha256 state command turn) result) → Decides entry.draft book.state command (comes_again book entry command) result
undrafted_comes book state entry command result opens same decides =
    let here = decides (turn_of book entry) in
    rw (passes book.state command opens) (subst (λ (s : State). Decides entry.draft s command (step sha256 s command (turn_of book entry)) result) same here)

command_done : (book after : Book) (entry : LogEntry) (command : Command) (told : Told) → opening sha256 book.state command ≡ Ok tt → IsCalled (turned book (own_turn book entry) command) book after (Ok told)
    → IsCalled (replayed_action sha256 book entry (actions.Call command)) book after (Ok told)
unfolding attempt
command_done book after entry command told opened done = rw opened done

-- it is carried out
pub replay_done : (book after : Book) (entry : LogEntry) (command : Command) (told : Told) (place : ℕ) → place ≡ book.state.place → entry.action ≡ actions.Call command → opening sha256 book.state command ≡ Ok tt
    → IsCalled (turned book (turn_at place entry) command) book after (Ok told) → IsCalled (replayed_call sha256 book entry) book after (Ok told)
replay_done book after entry command told place at is opened done =
    let here : IsCalled (turned book (own_turn book entry) command) book after (Ok told) = subst (λ (n : ℕ). IsCalled (turned book (turn_at n entry) command) book after (Ok told)) at done in
    as_call book entry command (λ c. IsCalled c book after (Ok told)) is (command_done book after entry command told opened here)
