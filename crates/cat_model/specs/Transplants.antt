-- Applying commits of a reference to a branch.
use Rattle.std.specs.Prelude.{ℕ, List, [], ◌∷◌, Option, Some, None, is_some, Result, Ok, Bool, true, false, ◌&&◌, flat_map, map}
use Rattle.std.specs.List.{list_all}
use Rattle.std.specs.Option.{option_map_or}
use Rattle.cat_names.specs.declared.hash.Hash.{Hash}
use Rattle.cat_model.specs.declared.command.Transplant.{Transplant}
use Rattle.cat_model.specs.declared.commit.Commit.{Commit}
use Rattle.cat_model.specs.declared.merging.Modes.{Modes}
use Rattle.cat_model.specs.declared.reference.Reference.{Reference}
use Rattle.cat_model.specs.declared.refusal.Refusal.{Refusal}
use Rattle.cat_model.specs.declared.refusal.Refusal.TheVariants.{BadRequest, RefNotFound}
use Rattle.cat_model.specs.declared.refusal.Reason.TheVariants.{NotConsecutive}
use Rattle.cat_model.specs.Same.{same_hash}
use Rattle.cat_model.specs.Maps.{Map}
use Rattle.cat_model.specs.Chain.{Commits, commit_of, entries, on_chain}
use Rattle.cat_model.specs.Plan.{Plan, plan}
use Rattle.cat_model.specs.State.{Digest, State}
use Rattle.cat_model.specs.Refusing.{◌>>=◌, Tested, Outcome, needs, named, needs_branch, pointed}
use Rattle.cat_model.specs.Merges.{Planned, Plans, step_planned}

-- ---- hashes in a row

-- there is a commit, and the hash is its parent's
abbrev pub has_parent : Hash → Option Commit → Bool
has_parent hash None = false
has_parent hash (Some c) = same_hash c.parent hash

-- each is the hash of a commit, and its parent's is the one before
abbrev pub are_children : Commits → Hash → List Hash → Bool
are_children commits parent [] = true
are_children commits parent (hash ∷ hashes) = has_parent parent (commit_of commits hash) && are_children commits hash hashes

-- each is the hash of a commit, and each but the first has the one before for its parent
abbrev pub are_consecutive : Commits → List Hash → Bool
are_consecutive commits [] = true
are_consecutive commits (hash ∷ hashes) = is_some (commit_of commits hash) && are_children commits hash hashes

-- the commits of hashes, in their order
abbrev pub commits_at : Commits → List Hash → Commits
commits_at commits hashes = flat_map (λ hash. option_map_or (λ c. (hash, c) ∷ []) (commit_of commits hash) []) hashes

-- ---- their plans

-- the plans of changes in turn: of each, from its base to its source, onto the map after the plan before, also where that one has conflicts
abbrev pub plan_each : Modes → Map → List (Map × Map) → List Plan
plan_each modes target [] = []
plan_each modes target (change ∷ changes) =
    let one = plan change.0 change.1 target modes in
    one ∷ plan_each modes one.map changes

-- what a commit changed: from the map at its parent to the map at it
abbrev pub change_made : Commits → Hash × Commit → Map × Map
change_made commits x = (entries commits x.1.parent, entries commits x.0)

-- plans, each with its commit's meta
abbrev pub with_metas : Commits → List Plan → List Planned
with_metas [] plans = []
with_metas (x ∷ others) [] = []
with_metas (x ∷ others) (p ∷ plans) = record { merge_parent = None; meta = x.1.meta; plan = p } ∷ with_metas others plans

-- what a transplant of commits plans onto a head
unfoldable pub transplant_planned : State → Transplant → Hash → List Planned
transplant_planned state t head =
    let chosen = commits_at state.commits t.hashes in
    with_metas chosen (plan_each t.modes (entries state.commits head) (map (change_made state.commits) chosen))

-- ---- their step

-- refused where a hash isn't on the chain of the reference
abbrev pub needs_on_chain : State → Reference → List Hash → Tested
needs_on_chain state from hashes = needs (list_all (on_chain state.commits from.head) hashes) RefNotFound

-- the branch of a transplant
unfoldable pub transplant_opening : Digest → State → Transplant → Result Reference Refusal
transplant_opening digest state t =
    named state t.branch >>= λ branch.
    named state t.from >>= λ from.
    needs_branch branch >>= λ _.
    pointed digest state (Some branch) t.hash >>= λ _.
    needs_on_chain state from t.hashes >>= λ _.
    needs (are_consecutive state.commits t.hashes) (BadRequest NotConsecutive) >>= λ _.
    Ok branch

-- the plans of a transplant onto a branch
abbrev pub transplant_plans : State → Transplant → Reference → ℕ → ℕ → Plans
transplant_plans state t branch opened moment = record {
  branch = branch;
  planned = transplant_planned state t branch.head;
  ancestor = None;
  asked = record { dry_run = t.dry_run; conflicts_as_result = t.conflicts_as_result };
  opened = opened;
  moment = moment;
}

-- commits of a reference applied to a branch
unfoldable pub step_transplant : Digest → State → Transplant → ℕ → ℕ → Outcome
step_transplant digest state t opened moment =
    transplant_opening digest state t >>= λ branch.
    step_planned digest state (transplant_plans state t branch opened moment)
