-- The steps of merges and of transplants, once they are opened and drafted.
use Rattle.std.proofs.Common.{◌≡◌, ℕ, Ok, refl}
use Rattle.sha2.specs.Sha256.{sha256}
use Rattle.cat_names.specs.declared.hash.Hash.{Hash}
use Rattle.cat_model.specs.declared.command.Merge.{Merge}
use Rattle.cat_model.specs.declared.command.Transplant.{Transplant}
use Rattle.cat_model.specs.declared.reference.Reference.{Reference}
use Rattle.cat_model.specs.Merges.{merge_opening, step_merge, step_planned}
use Rattle.cat_model.specs.State.{State}
use Rattle.cat_model.specs.Transplants.{step_transplant, transplant_opening}
use Rattle.cat_decisions.specs.declared.drafts.Draft.{Draft}
use Rattle.cat_decisions.specs.Drafts.{IsMergeDraft, IsTransplantDraft, plans_for}

pub merge_step : (state : State) (m : Merge) (branch : Reference) (source : Hash) (d : Draft) (opened moment : ℕ) → merge_opening sha256 state m ≡ Ok (branch, source) → IsMergeDraft state m branch source d
    → step_merge sha256 state m opened moment ≡ step_planned sha256 state (plans_for d branch opened moment)
unfolding step_merge
merge_step state m branch source d opened moment opens drafted = rw (opens, drafted.ancestor, drafted.exact, drafted.asked) refl

pub transplant_step : (state : State) (t : Transplant) (branch : Reference) (d : Draft) (opened moment : ℕ) → transplant_opening sha256 state t ≡ Ok branch → IsTransplantDraft state t branch d
    → step_transplant sha256 state t opened moment ≡ step_planned sha256 state (plans_for d branch opened moment)
unfolding step_transplant
transplant_step state t branch d opened moment opens drafted = rw (opens, drafted.ancestor, drafted.exact, drafted.asked) refl
