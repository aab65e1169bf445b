-- Calls in their turns, as attempts: in no draft, or in one that is given.
use Rattle.std.proofs.Common.{◌≡◌, ◌<◌, ℕ, Ok, true, false, not, nat_eq, refl, arith}
use Rattle.std.proofs.lemmas.Bool.Decides.{nat_tests}
use Rattle.sha2.specs.Sha256.{sha256}
use Rattle.cat_model.specs.declared.command.Command.{Command}
use Rattle.cat_model.specs.declared.command.Command.TheVariants as commands
use Rattle.cat_model.specs.Book.{Book, attempt_on, call_on}
use Rattle.cat_model.specs.Calls.{attempt, in_draft}
use Rattle.cat_model.specs.State.{State}
use Rattle.cat_model.specs.Step.{opening, opens_draft}
use Rattle.cat_decisions.specs.declared.call.Call.{Call}
use Rattle.cat_decisions.specs.Builds.{command_of}
use Rattle.cat_core.specs.declared.ledger.logging.Turn.{Turn}
use Rattle.cat_core.specs.LoggedLaws.{IsDraftOf, call_opens}
use Rattle.cat_core.specs.Turns.{turned}

abbrev pub turn_of : ℕ → ℕ → ℕ → ℕ → Turn
turn_of caller moment number opened = record { caller = caller; draft = number; opened = opened; moment = moment }

-- ---- in no draft

pub none_opened : (command : Command) → opens_draft command ≡ false → IsDraftOf command 0
none_opened command opens = rw opens refl

-- nothing is tested before its step
pub passes : (state : State) (command : Command) → opens_draft command ≡ false → opening sha256 state command ≡ Ok tt
passes state (commands.Create c) opens = refl
passes state (commands.Assign c) opens = refl
passes state (commands.Delete c) opens = refl
passes state (commands.Commit c) opens = absurd cc
passes state (commands.Merge m) opens = absurd cc
passes state (commands.Transplant t) opens = absurd cc

pub undrafted : (caller moment place : ℕ) (book : Book) (command : Command) → place ≡ book.state.place → opens_draft command ≡ false → turned book (turn_of caller moment 0 place) command ≡ call_on sha256 caller book command moment
unfolding attempt
undrafted caller moment place book command at opens = rw (at, passes book.state command opens, opens) refl

-- ---- in a draft of a number

some_number : (draft : ℕ) → 0 < draft → not (nat_eq draft 0) ≡ true
some_number draft some = grind (arith, nat_tests, some)

pub number_is : (call : Call) (number : ℕ) → 0 < number → IsDraftOf (command_of call) number
number_is call number some = rw (call_opens call) (some_number number some)

pub settled : (book : Book) (caller moment number opened : ℕ) (call : Call) → opening sha256 book.state (command_of call) ≡ Ok tt → turned book (turn_of caller moment number opened) (command_of call) ≡ attempt_on sha256 book (in_draft caller moment number opened) (command_of call)
unfolding attempt
settled book caller moment number opened call passed = rw passed refl
