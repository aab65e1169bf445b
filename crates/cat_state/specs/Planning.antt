-- Plans whose commits may be added, each upon the one before.
use Rattle.std.specs.Prelude.{◌≡◌, ◌≤◌, ◌+◌, ℕ, List, [], ◌∷◌, Ok, Bool, IsTrue, length}
use Rattle.std.specs.List.{list_all}
use Rattle.sha2.specs.Sha256.{sha256}
use Rattle.cat_names.specs.declared.hash.Hash.{Hash}
use Rattle.cat_model.specs.declared.content.Content.{Content}
use Rattle.cat_model.specs.Maps.{Map, after_changes}
use Rattle.cat_model.specs.Merges as merges
use Rattle.cat_model.specs.Merges.{with_planned}
use Rattle.cat_model.specs.Namespaces.{is_well_formed}
use Rattle.cat_model.specs.Refusing.{◌>>=◌, Tested}
use Rattle.cat_model.specs.State.{State}
use Rattle.cat_merge.specs.declared.plan.Plan.{Plan}
use Rattle.cat_merge.specs.declared.plan.Planned.{Planned}
use Rattle.cat_frames.specs.Standing.{maps_pass}
use Rattle.cat_state.specs.declared.additions.Additions.{Additions}
use Rattle.cat_state.specs.Changing.{with_additions}
use Rattle.cat_state.specs.Keeping.{fits, has_contents}

-- the map of a plan is its changes of the one before, it is well-formed, and there is a content of each entry's hash
pub record IsMadeUpon (present : List (Hash × Content)) (before : Map) (p : Plan) : Type 0 where
  pub changed : p.map ≡ after_changes p.ops before
  pub well_formed : IsTrue (is_well_formed p.map)
  pub held : IsTrue (has_contents present p.map)

-- each plan is so made upon the map of the one before
abbrev pub AreMadeUpon : List (Hash × Content) → Map → List Planned → Type 0
AreMadeUpon present before [] = Unit {0}
AreMadeUpon present before (p ∷ planned) = IsMadeUpon present before p.plan × AreMadeUpon present (p.plan).map planned

-- the map of each plan has no more keys than the limit says
abbrev pub all_fit : State → List Planned → Bool
all_fit state planned = list_all (λ p. fits state.limits p.plan.map) planned

-- what they add: at most a commit for each, and no content; no map has more keys than the limit says where neither theirs nor those before have more
pub record AddsFew (state : State) (planned : List Planned) (a : Additions) : Type 0 where
  pub present : (with_additions state a).present ≡ state.present
  pub count : length (with_additions state a).commits ≤ length state.commits + length planned
  pub keys : IsTrue (all_fit state planned) → IsTrue (maps_pass (fits state.limits) state.commits) → IsTrue (maps_pass (fits state.limits) (with_additions state a).commits)

-- refused where one of their commits would be
abbrev pub needs_planned : ℕ → State → Hash → List merges.Planned → Tested
needs_planned moment state head planned = with_planned sha256 moment state head planned >>= λ _. Ok tt
