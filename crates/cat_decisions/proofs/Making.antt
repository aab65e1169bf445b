-- Changes of requests.
use Rattle.std.proofs.Common.{◌≡◌, ℕ, ◌<◌, Ok, refl, sym, ap, subst}
use Rattle.sha2.specs.Sha256.{sha256}
use Rattle.cat_names.specs.declared.hash.Hash.{Hash}
use Rattle.cat_model.specs.declared.command.Command.TheVariants as commands
use Rattle.cat_model.specs.declared.command.CommitRequest.{CommitRequest}
use Rattle.cat_model.specs.declared.reference.Reference.{Reference}
use Rattle.cat_model.specs.Commits.{step_commit}
use Rattle.cat_model.specs.State.{State}
use Rattle.cat_checks.specs.WithinSteps.{commit_within}
use Rattle.cat_state.specs.declared.additions.Additions.{Additions}
use Rattle.cat_state.specs.Changing.{AreNewTo, MayBeHead, applied, with_additions}
use Rattle.cat_decisions.specs.declared.decision.Making.{Making}
use Rattle.cat_decisions.specs.Decisions.{IsMaking}
use Rattle.cat_decisions.specs.declared.given.Given.{Given}
use Rattle.cat_decisions.specs.Builds.{IsGiven}
use Rattle.cat_decisions.specs.Putting.{making_of}
use Rattle.cat_decisions.proofs.Steps.{given_is, logged_is}
use Rattle.cat_decisions.proofs.Within.{left_within}

-- the step of a request makes the change of what is added
pub making_is : (draft moment : ℕ) (state : State) (c : CommitRequest) (branch : Reference) (hash : Hash) (g : Given) (a : Additions) (m : Making) → m ≡ making_of c branch hash g a
    → step_commit sha256 state c draft moment ≡ Ok (applied state (making_of c branch hash g a).change, (making_of c branch hash g a).reply) → state.place < 4294967295 → AreNewTo state a → MayBeHead (with_additions state a) hash → IsGiven draft c g
    → IsMaking draft state (commands.Commit c) (step_commit sha256 state c draft moment) m
making_is draft moment state c branch hash g a m is step place new head given =
    subst (λ (x : Making). IsMaking draft state (commands.Commit c) (step_commit sha256 state c draft moment) x) (sym is) (record {
      step = step;
      may = record { place = place; additions = new; reference = head; within = left_within state _ _ (step_commit sha256 state c draft moment) (λ before. commit_within sha256 state before c draft moment) step };
      command = ap commands.Commit (logged_is c draft g.ops g.contents (given_is draft c g given));
      head = refl;
    })
