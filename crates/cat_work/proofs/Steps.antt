-- The step of a call after the tests before its draft, and what it leaves of the state where it makes no entry.
use Rattle.std.proofs.Common.{◌≡◌, ◌+◌, ⊎_elim, Result, Ok, Err, true, false, nat_lt, ap, arith}
use Rattle.std.proofs.lemmas.Bool.Decides.{nat_tests}
use Rattle.sha2.specs.Sha256.{sha256}
use Rattle.cat_checks.specs.Changes.{tells_change}
use Rattle.cat_checks.specs.LeadingLaws.{Follows, is_step}
use Rattle.cat_model.specs.declared.command.Command.{Command}
use Rattle.cat_model.specs.declared.command.Command.TheVariants as commands
use Rattle.cat_model.specs.declared.refusal.Refusal.{Refusal}
use Rattle.cat_model.specs.declared.reply.Reply.{Reply}
use Rattle.cat_model.specs.Commits.{commit_opening, step_commit}
use Rattle.cat_model.specs.Merges.{merge_opening, step_merge}
use Rattle.cat_model.specs.Refusing.{◌>>=◌, Outcome, Tested}
use Rattle.cat_model.specs.State.{State}
use Rattle.cat_model.specs.Step.{Turn, opening, step}
use Rattle.cat_model.specs.Transplants.{step_transplant, transplant_opening}

-- ---- the tests before the draft come first

passed : {A : Type 0} → A → Tested
passed x = Ok tt

first_of : {A : Type 0} (r : Result A Refusal) (f : A → Outcome) (why : Refusal) → (r >>= passed) ≡ Err why → (r >>= f) ≡ Err why
unfolding passed
first_of (Ok x) f why e = absurd cc
first_of (Err other) f why e = let same : other ≡ why = cc in ap Err same

-- where they refuse, so does the step
pub step_first : (state : State) (c : Command) (turn : Turn) (why : Refusal) → opening sha256 state c ≡ Err why → step sha256 state c turn ≡ Err why
unfolding passed step_commit step_merge step_transplant
step_first state (commands.Create c) turn why e = absurd cc
step_first state (commands.Assign c) turn why e = absurd cc
step_first state (commands.Delete c) turn why e = absurd cc
step_first state (commands.Commit c) turn why e = first_of (commit_opening sha256 state c) _ why e
step_first state (commands.Merge m) turn why e = first_of (merge_opening sha256 state m) _ why e
step_first state (commands.Transplant t) turn why e = first_of (transplant_opening sha256 state t) _ why e

-- ---- a step without an entry changes nothing

-- where no entry is made, the state is as it was
pub step_stays : (state after : State) (c : Command) (turn : Turn) (reply : Reply) → step sha256 state c turn ≡ Ok (after, reply) → nat_lt state.place after.place ≡ false → after ≡ state
step_stays state after c turn reply e flat = ⊎_elim (λ (same : after ≡ state). same)
    (λ (on : Follows sha256 state after × (tells_change reply ≡ true)). let up : after.place ≡ state.place + 1 = on.0.place in absurd (grind (arith, nat_tests, up, flat)))
    (is_step sha256 state c turn after reply e).leads
