-- What plans come to on a state.
use Rattle.std.specs.Prelude.{◌≡◌, ◌<◌, ◌≤◌, ◌+◌, ℕ, List, Option, Some, None, Result, Ok, Err, Bool, true, false, if◌then◌else◌, length}
use Rattle.sha2.specs.Sha256.{sha256}
use Rattle.cat_names.specs.declared.hash.Hash.{Hash}
use Rattle.cat_model.specs.declared.command.Command.{Command}
use Rattle.cat_model.specs.declared.conflict.Conflict.{Conflict}
use Rattle.cat_model.specs.declared.merging.Detail.{Detail}
use Rattle.cat_model.specs.declared.reference.Reference.{Reference}
use Rattle.cat_model.specs.declared.refusal.Refusal.{Refusal}
use Rattle.cat_model.specs.declared.refusal.Refusal.TheVariants.{Conflicts}
use Rattle.cat_model.specs.declared.reply.Merged.{Merged}
use Rattle.cat_model.specs.declared.reply.Reply.TheVariants as replies
use Rattle.cat_model.specs.Chain.{entries}
use Rattle.cat_model.specs.Merges.{with_planned}
use Rattle.cat_model.specs.Refusing.{Outcome}
use Rattle.cat_model.specs.State.{State}
use Rattle.cat_model.specs.Step.{head_told}
use Rattle.cat_merge.specs.declared.plan.Planned.{Planned}
use Rattle.cat_state.specs.declared.additions.Additions.{Additions}
use Rattle.cat_state.specs.declared.change.ReferenceChange.TheVariants.{Moved}
use Rattle.cat_state.specs.declared.failure.Failure.{Failure}
use Rattle.cat_state.specs.Changing.{AreNewTo, MayBeHead, MayBeMade, applied, with_additions}
use Rattle.cat_state.specs.Giving.{Fails}
use Rattle.cat_state.specs.Planning.{AddsFew}
use Rattle.cat_decisions.specs.declared.decision.Decision.{Decision}
use Rattle.cat_decisions.specs.declared.decision.Decision.TheVariants.{Told, Made}
use Rattle.cat_decisions.specs.declared.decision.Making.{Making}
use Rattle.cat_decisions.specs.Drafts.{all_planned, all_set_in, changing}

-- ---- replies

-- the reply, where the branch is left with this head
abbrev pub reply_at : Option Hash → List Detail → Reference → Hash → Bool → Bool → Merged
reply_at ancestor details branch head was_applied was_successful = record {
  common_ancestor = ancestor;
  details = details;
  effective_target = branch.head;
  target = record branch { head = head };
  was_applied = was_applied;
  was_successful = was_successful;
}

-- conflicts refuse, or are the reply
abbrev pub told_or_refused : Bool → Merged → List Conflict → Result Merged Refusal
told_or_refused told reply conflicts = if told then Ok reply else Err (Conflicts conflicts)

-- ---- commits

-- there is room for an entry, for the commits that plans make, and for the keys that they set on the map at a head
pub record HasRoom (state : State) (head : Hash) (planned : List Planned) : Type 0 where
  pub place : state.place < 4294967295
  pub commits : length state.commits + length (changing planned) ≤ 4294967295
  pub log : state.place < state.limits.log
  pub most : length state.commits + length (changing planned) ≤ state.limits.commits
  pub keys : length (entries state.commits head) + length (all_set_in planned) ≤ state.limits.keys

-- what the commits of plans add to a state upon a head, behind the last one's hash
pub record IsAdded (moment : ℕ) (state : State) (head : Hash) (planned : List Planned) (a : Hash × Additions) : Type 0 where
  pub some : length planned ≡ 0 → ⊥
  pub step : with_planned sha256 moment state head (all_planned planned) ≡ Ok (a.0, with_additions state a.1)
  pub new : AreNewTo state a.1
  pub last : MayBeHead (with_additions state a.1) a.0
  pub adds : AddsFew state planned a.1

-- what they add, if there are any
abbrev pub AreAdded : ℕ → State → Hash → List Planned → Option (Hash × Additions) → Type 0
AreAdded moment state head planned None = length planned ≡ 0
AreAdded moment state head planned (Some a) = IsAdded moment state head planned a

-- ---- decisions

-- the branch at its new head
abbrev pub making_of : Option Hash → List Detail → Reference → Command → Hash × Additions → Making
making_of ancestor details branch logged a = record {
  change = record { additions = a.1; reference = Moved (record branch { head = a.0 }) };
  command = logged;
  head = Some a.0;
  reply = replies.Merged (reply_at ancestor details branch a.0 true true);
}

-- nothing is made where there are no commits, or where they are only tried
abbrev pub decision_of : Option Hash → List Detail → Reference → Bool → Command → Option (Hash × Additions) → Decision
decision_of ancestor details branch true logged added = Told (replies.Merged (reply_at ancestor details branch branch.head false true))
decision_of ancestor details branch false logged None = Told (replies.Merged (reply_at ancestor details branch branch.head false true))
decision_of ancestor details branch false logged (Some a) = Made (making_of ancestor details branch logged a)

-- the outcome is the change, which the state may take, by a call that is logged like this, with the head that the reply tells
pub record IsSettled (state : State) (logged : Command) (outcome : Outcome) (m : Making) : Type 0 where
  pub step : outcome ≡ Ok (applied state m.change, m.reply)
  pub may : MayBeMade state m.change
  pub command : m.command ≡ logged
  pub head : m.head ≡ head_told m.reply

-- the outcome is a refusal, a reply, or a change so, unless memory ran out
abbrev pub Settles : State → Command → Outcome → Result Decision Failure → Type 0
Settles state logged outcome (Ok (Told reply)) = outcome ≡ Ok (state, reply)
Settles state logged outcome (Ok (Made m)) = IsSettled state logged outcome m
Settles state logged outcome (Err failure) = Fails failure outcome
