-- What is decided of calls on references.
use Rattle.std.proofs.Common.{◌≡◌, ℕ, ◌<◌, List, Option, Result, Ok, IsTrue, sym, ap, subst, ◌∙◌}
use Rattle.sha2.specs.Sha256.{sha256}
use Rattle.cat_names.specs.declared.hash.Hash.{Hash}
use Rattle.cat_model.specs.declared.command.Command.{Command}
use Rattle.cat_model.specs.declared.reference.Reference.{Reference}
use Rattle.cat_model.specs.declared.reply.Reply.TheVariants as replies
use Rattle.cat_model.specs.Moves.{with_references}
use Rattle.cat_model.specs.Refusing.{Outcome}
use Rattle.cat_model.specs.State.{State}
use Rattle.cat_model.specs.Step.{head_left, logged_command}
use Rattle.cat_frames.specs.Standing.{is_within}
use Rattle.cat_state.specs.declared.additions.Additions.{Additions}
use Rattle.cat_state.specs.declared.change.ReferenceChange.{ReferenceChange}
use Rattle.cat_state.specs.declared.failure.Failure.{Failure}
use Rattle.cat_state.specs.Changing.{AreNewTo, MayBecome, changed_references, with_additions}
use Rattle.cat_decisions.specs.declared.decision.Decision.{Decision}
use Rattle.cat_decisions.specs.Decisions.{Decides, IsMaking}

-- the reply of a call on a reference
abbrev told : State → List Reference → Reference → Outcome
told state references reference = Ok (with_references state references, replies.Reference reference)

-- a change that adds nothing
pub referred_is : (draft : ℕ) (state : State) (call command : Command) (a : Additions) (change : ReferenceChange) (head : Option Hash) (reply : Reference) → state.place < 4294967295 → MayBecome state change → (IsTrue (is_within state) → IsTrue (is_within (with_references state (changed_references state.references change)))) → with_additions state a ≡ state → AreNewTo state a
    → command ≡ logged_command sha256 draft call → head ≡ head_left call (replies.Reference reply)
    → IsMaking draft state call (told state (changed_references state.references change) reply) (record { change = record { additions = a; reference = change }; command = command; head = head; reply = replies.Reference reply })
referred_is draft state call command a change head reply place may stays none new logged left = record {
  step = ap (λ (s : State). told s (changed_references state.references change) reply) (sym none);
  may = record { place = place; additions = new; reference = subst (λ (s : State). MayBecome s change) (sym none) may; within = λ before. subst (λ (s : State). IsTrue (is_within (with_references s (changed_references state.references change)))) (sym none) (stays before) };
  command = logged;
  head = left;
}

-- it is decided of a step that is this one
pub decided_by : (draft : ℕ) (state : State) (call : Command) (taken : Outcome) (references : List Reference) (reference reply : Reference) (result : Result Decision Failure) → taken ≡ told state references reference → reply ≡ reference
    → Decides draft state call (told state references reply) result → Decides draft state call taken result
decided_by draft state call taken references reference reply result is same d =
    subst (λ (o : Outcome). Decides draft state call o result) (ap (λ (r : Reference). told state references r) same ∙ sym is) d
