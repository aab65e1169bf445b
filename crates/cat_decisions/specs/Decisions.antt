-- What is decided of a call, against its step.
use Rattle.std.specs.Prelude.{◌≡◌, ℕ, Result, Ok, Err}
use Rattle.sha2.specs.Sha256.{sha256}
use Rattle.cat_model.specs.declared.command.Command.{Command}
use Rattle.cat_model.specs.Refusing.{Outcome}
use Rattle.cat_model.specs.State.{State}
use Rattle.cat_model.specs.Step.{head_left, logged_command}
use Rattle.cat_state.specs.declared.failure.Failure.{Failure}
use Rattle.cat_state.specs.Changing.{MayBeMade, applied}
use Rattle.cat_state.specs.Giving.{Fails}
use Rattle.cat_decisions.specs.declared.decision.Decision.{Decision}
use Rattle.cat_decisions.specs.declared.decision.Decision.TheVariants.{Told, Made}
use Rattle.cat_decisions.specs.declared.decision.Making.{Making}

-- the step makes the change, which the state may take; the call is logged as in a draft of that number, with the head that it leaves
pub record IsMaking (draft : ℕ) (state : State) (call : Command) (outcome : Outcome) (m : Making) : Type 0 where
  pub step : outcome ≡ Ok (applied state m.change, m.reply)
  pub may : MayBeMade state m.change
  pub command : m.command ≡ logged_command sha256 draft call
  pub head : m.head ≡ head_left call m.reply

-- the step refuses so, tells so, or makes so, unless memory ran out
abbrev pub Decides : ℕ → State → Command → Outcome → Result Decision Failure → Type 0
Decides draft state command step (Ok (Told reply)) = step ≡ Ok (state, reply)
Decides draft state command step (Ok (Made m)) = IsMaking draft state command step m
Decides draft state command step (Err failure) = Fails failure step
