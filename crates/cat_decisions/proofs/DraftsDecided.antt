-- What settles a call decides it.
use Rattle.std.proofs.Common.{◌≡◌, ℕ, Result, Ok, Err, sym, subst, ◌∙◌}
use Rattle.sha2.specs.Sha256.{sha256}
use Rattle.cat_model.specs.declared.command.Command.{Command}
use Rattle.cat_model.specs.declared.reply.Reply.{Reply}
use Rattle.cat_model.specs.Refusing.{Outcome}
use Rattle.cat_model.specs.State.{State}
use Rattle.cat_model.specs.Step.{head_left, head_told, logged_command}
use Rattle.cat_state.specs.declared.failure.Failure.{Failure}
use Rattle.cat_state.specs.Giving.{Fails}
use Rattle.cat_decisions.specs.declared.decision.Decision.{Decision}
use Rattle.cat_decisions.specs.declared.decision.Decision.TheVariants.{Told, Made}
use Rattle.cat_decisions.specs.Decisions.{Decides}
use Rattle.cat_decisions.specs.Settling.{Settles}

pub decides_by : (number : ℕ) (state : State) (command logged : Command) (step settled : Outcome) (r : Result Decision Failure) → step ≡ settled → logged ≡ logged_command sha256 number command → ((reply : Reply) → head_left command reply ≡ head_told reply) → Settles state logged settled r
    → Decides number state command step r
decides_by number state command logged step settled (Ok (Told reply)) is log heads settles = is ∙ settles
decides_by number state command logged step settled (Ok (Made m)) is log heads settles = record {
  step = is ∙ settles.step;
  may = settles.may;
  command = settles.command ∙ log;
  head = settles.head ∙ sym (heads m.reply);
}
decides_by number state command logged step settled (Err failure) is log heads settles = subst (λ (o : Outcome). Fails failure o) (sym is) settles
