-- A draft whose branch has moved at the last attempt too.
use Rattle.std.proofs.Common.{◌≡◌, ℕ, List, [], ◌∷◌, ◌++◌, Some, refl, ap, ap₂, subst, ◌∙◌}
use Rattle.cat_names.specs.declared.hash.Hash.{Hash}
use Rattle.cat_decisions.specs.declared.building.Built.{Built}
use Rattle.cat_decisions.specs.Builds.{HasHead}
use Rattle.cat_core.specs.Drafts.{IsMoved, command_in, dropping}
use Rattle.cat_core.specs.Stored.{Stored}
use Rattle.cat_core.specs.declared.draft.Draft.{Draft}
use Rattle.cat_model.specs.declared.refusal.Refusal.TheVariants.{RetriesSpent}
use Rattle.cat_model.specs.declared.refusal.Refused.{Refused}
use Rattle.cat_model.specs.State.{State}
use Rattle.cat_work.specs.Turns.{IsSpent}

-- the refusal of a call that met these pairs, and that head at that place
abbrev refusal : List (ℕ × Hash) → Hash → ℕ → Refused
refusal pairs head place = record { place = Some place; why = RetriesSpent (pairs ++ (place, head) ∷ []) }

-- the draft comes back with a view, its head there is told, and it is dropped
pub spent : {K : Type 0} (s s' after : Stored K) (d e : Draft) (built : Built) (view : State) (pairs : List (ℕ × Hash)) (place : ℕ) (head : Hash) (r : Refused) → IsMoved s d built e view s'
    → place ≡ view.place → HasHead view (command_in e) head → after ≡ dropping s' e → r ≡ refusal pairs head place → IsSpent s d built pairs r after
spent {K} s s' after d e built view pairs place head r m at has dropped is = record {
  view = view;
  moved = record { up = m.up; passes = m.passes; other = m.other; draft = refl; view_is = m.view_is; after = refl };
  head = head;
  more = pairs ++ (view.place, head) ∷ [];
  is = is ∙ ap (refusal pairs head) at;
  pairs_are = refl;
  has = subst (λ (x : Draft). HasHead view (command_in x) head) m.draft has;
  after = dropped ∙ ap₂ dropping m.after m.draft;
}
