-- What is decided of a call, by its kind.
use Rattle.std.proofs.Common.{◌≡◌, Result, sym, subst}
use Rattle.sha2.specs.Sha256.{sha256}
use Rattle.cat_model.specs.declared.command.Command.{Command}
use Rattle.cat_model.specs.State.{State}
use Rattle.cat_model.specs.Step.{Turn, step}
use Rattle.cat_state.specs.declared.failure.Failure.{Failure}
use Rattle.cat_decisions.specs.declared.decision.Decision.{Decision}
use Rattle.cat_decisions.specs.Decisions.{Decides}
use Rattle.cat_decisions.specs.declared.call.Call.{Call}
use Rattle.cat_decisions.specs.Builds.{command_of}

-- it is decided of a command that is this one
pub decides_command : (state : State) (turn : Turn) (command one : Command) (result : Result Decision Failure) → command ≡ one → Decides turn.draft state one (step sha256 state one turn) result → Decides turn.draft state command (step sha256 state command turn) result
decides_command state turn command one result is = subst (λ (x : Command). Decides turn.draft state x (step sha256 state x turn) result) (sym is)

-- it is decided of a call that is this one
pub decides_call : (state : State) (turn : Turn) (call one : Call) (result : Result Decision Failure) → call ≡ one → Decides turn.draft state (command_of one) (step sha256 state (command_of one) turn) result
    → Decides turn.draft state (command_of call) (step sha256 state (command_of call) turn) result
decides_call state turn call one result is = subst (λ (x : Call). Decides turn.draft state (command_of x) (step sha256 state (command_of x) turn) result) (sym is)
