-- The entries that a request makes in the list that its pass has seen.
use Rattle.std.specs.Prelude.{ℕ, ◌==◌, ◌≡◌, ◌⊎◌, List, [], ◌∷◌, filter, Result, Ok}
use Rattle.cat_desk.specs.Log.{Follows}
use Rattle.cat_desk.specs.Pass.{DeskId, known, mark_of, number_of, seen}
use Rattle.cat_desk.specs.declared.pass.Pass.{Pass}
use Rattle.cat_model.specs.declared.command.Command.{Command}
use Rattle.cat_model.specs.declared.log_entry.LogEntry.{LogEntry}
use Rattle.cat_model.specs.declared.refusal.Refusal.{Refusal}
use Rattle.cat_model.specs.declared.refusal.Refused.{Refused}
use Rattle.cat_model.specs.declared.reply.Told.{Told}
use Rattle.cat_model.specs.Sweeps.{sweep_entry}
use Rattle.cat_policy.specs.declared.policy.Policy.{Policy}
use Rattle.cat_policy.specs.Policies.{resolved}
use Rattle.cat_rest.specs.declared.wanted.Wanted.{Wanted}
use Rattle.cat_rest.specs.declared.wanted.Wanted.TheVariants.{Change, Collect}
use Rattle.cat_work.specs.Answers.{Accepts}
use Rattle.cat_work.specs.Passes.{state_of}
use Rattle.cat_collect.specs.Answers.{Collects}

-- a caller's entries, in their order
abbrev pub entries_of : ℕ → List LogEntry → List LogEntry
entries_of caller log = filter (λ (entry : LogEntry). entry.caller == caller) log

-- the call that is wanted was accepted, and this is its entry: the last of what the pass has then seen
pub record IsAccepted (desk : DeskId) (wants : Result Wanted Refusal) (taken : List ℕ) (p q : Pass) (told : Result Told Refused) (entry : LogEntry) : Type 0 where
  pub command : Command
  pub wants_is : wants ≡ Ok (Change command)
  pub moment : ℕ
  pub one : taken ≡ moment ∷ []
  pub answer : Told
  pub told_is : told ≡ Ok answer
  pub accepts : Accepts desk (number_of p) command moment (mark_of p) (mark_of q) (seen p) answer (seen q)
  pub entry_is : accepts.entry ≡ entry

-- the collection that is wanted was accepted, and this is its entry: the last of what the pass has then seen
pub record IsCollected (desk : DeskId) (wants : Result Wanted Refusal) (taken : List ℕ) (p q : Pass) (told : Result Told Refused) (entry : LogEntry) : Type 0 where
  pub policy : Policy
  pub wants_is : wants ≡ Ok (Collect policy)
  pub moment : ℕ
  pub one : taken ≡ moment ∷ []
  pub answer : Told
  pub told_is : told ≡ Ok answer
  pub collects : Collects desk (number_of p) (resolved moment policy) moment (known p) (mark_of p) (mark_of q) (seen p) answer (seen q)
  pub entry_is : sweep_entry (number_of p) (state_of desk (seen q)).place moment collects.sweep ≡ entry

-- the entries that a request made: that of a call or of a collection which was accepted; or none, and what the pass has seen more is of other callers
abbrev pub Makes : DeskId → Result Wanted Refusal → List ℕ → Pass → Pass → Result Told Refused → List LogEntry → Type 0
Makes desk wants taken p q told [] = Follows (number_of p) (seen p) (seen q)
Makes desk wants taken p q told (entry ∷ []) = IsAccepted desk wants taken p q told entry ⊎ IsCollected desk wants taken p q told entry
Makes desk wants taken p q told (entry ∷ next ∷ more) = ⊥
