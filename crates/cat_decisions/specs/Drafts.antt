-- What is planned upon a branch.
use Rattle.std.specs.Prelude.{◌≡◌, ℕ, List, [], ◌∷◌, Some, None, Bool, false, IsTrue, filter, flat_map, map}
use Rattle.std.specs.List.{list_all}
use Rattle.sha2.specs.Sha256.{sha256}
use Rattle.cat_names.specs.declared.hash.Hash.{Hash}
use Rattle.cat_model.specs.declared.command.Command.{Command}
use Rattle.cat_model.specs.declared.command.Command.TheVariants as commands
use Rattle.cat_model.specs.declared.command.Merge.{Merge}
use Rattle.cat_model.specs.declared.command.Transplant.{Transplant}
use Rattle.cat_model.specs.declared.commit.Commit.{Commit}
use Rattle.cat_model.specs.declared.commit.Meta.{Meta}
use Rattle.cat_model.specs.declared.conflict.Conflict.{Conflict}
use Rattle.cat_model.specs.declared.merging.Detail.{Detail}
use Rattle.cat_model.specs.declared.reference.Reference.{Reference}
use Rattle.cat_model.specs.Base.{base}
use Rattle.cat_model.specs.Chain.{entries}
use Rattle.cat_model.specs.Maps.{Map}
use Rattle.cat_model.specs.Merges as merges
use Rattle.cat_model.specs.Namespaces.{is_well_formed}
use Rattle.cat_model.specs.State.{State, is_known}
use Rattle.cat_model.specs.Transplants as transplants
use Rattle.cat_graph.specs.Linked.{is_merge_known}
use Rattle.cat_merge.specs.declared.plan.Plan.{Plan}
use Rattle.cat_merge.specs.declared.plan.Planned.{Planned}
use Rattle.cat_merge.specs.Planned.{AreUpon, as_planned}
use Rattle.cat_decisions.specs.declared.drafts.Asked.{Asked}
use Rattle.cat_decisions.specs.declared.drafts.Draft.{Draft}

-- ---- as the definitions have it

abbrev pub all_planned : List Planned → List merges.Planned
all_planned planned = map as_planned planned

abbrev pub asked_of : Asked → merges.Asked
asked_of a = record { dry_run = a.dry_run; conflicts_as_result = a.conflicts_as_result }

-- ---- of lists of plans

-- a plan changes something
abbrev pub has_changes : Planned → Bool
has_changes p = merges.has_changes p.plan.ops

-- those that do
abbrev pub changing : List Planned → List Planned
changing planned = filter has_changes planned

abbrev pub plans_of : List Planned → List Plan
plans_of planned = map (λ p. p.plan) planned

abbrev pub all_set_in : List Planned → Map
all_set_in planned = flat_map (λ p. merges.entries_set p.plan.ops) planned

abbrev pub all_details_in : List Planned → List Detail
all_details_in planned = flat_map (λ p. p.plan.details) planned

abbrev pub all_conflicts_in : List Planned → List Conflict
all_conflicts_in planned = flat_map (λ p. p.plan.conflicts) planned

-- ---- drafts

-- both commits of a merge are known
pub record AreKnown (state : State) (head other : Hash) : Type 0 where
  pub upon : IsTrue (is_known sha256 state head)
  pub source : IsTrue (is_known sha256 state other)

-- plans upon a head, each upon the one before; without conflicts each map is well-formed
pub record ArePlans (state : State) (head : Hash) (plans : List Plan) : Type 0 where
  pub upon : AreUpon (entries state.commits head) plans
  pub well_formed : flat_map (λ p. p.conflicts) plans ≡ [] → IsTrue (list_all (λ p. is_well_formed p.map) plans)

-- they are so upon a known head, and what they merge is known
pub record AreDrafted (state : State) (head : Hash) (planned : List Planned) : Type 0 where
  pub known : IsTrue (is_known sha256 state head)
  pub merged : IsTrue (list_all (λ p. is_merge_known state.commits p.merge_parent) planned)
  pub plans : ArePlans state head (plans_of planned)

-- the plans of a draft for a branch, of a call that began at a place, at its moment
abbrev pub plans_for : Draft → Reference → ℕ → ℕ → merges.Plans
plans_for d branch opened moment = record { branch = branch; planned = all_planned d.planned.items; ancestor = d.ancestor; asked = asked_of d.asked; opened = opened; moment = moment }

-- calls as they are logged
abbrev pub logged_merge : Merge → Command
logged_merge m = commands.Merge (record m { dry_run = false; conflicts_as_result = false })

abbrev pub logged_transplant : Transplant → Command
logged_transplant t = commands.Transplant (record t { dry_run = false; conflicts_as_result = false })

-- the draft of a merge of a commit into a branch
pub record IsMergeDraft (state : State) (m : Merge) (branch : Reference) (source : Hash) (d : Draft) : Type 0 where
  pub ancestor : d.ancestor ≡ Some (base state.commits source branch.head)
  pub exact : all_planned d.planned.items ≡ merges.merge_planned state m (base state.commits source branch.head) source branch.head ∷ []
  pub drafted : AreDrafted state branch.head d.planned.items
  pub asked : asked_of d.asked ≡ record { dry_run = m.dry_run; conflicts_as_result = m.conflicts_as_result }
  pub command : d.command ≡ logged_merge m

-- the draft of a transplant onto a branch
pub record IsTransplantDraft (state : State) (t : Transplant) (branch : Reference) (d : Draft) : Type 0 where
  pub ancestor : d.ancestor ≡ None
  pub exact : all_planned d.planned.items ≡ transplants.transplant_planned state t branch.head
  pub drafted : AreDrafted state branch.head d.planned.items
  pub asked : asked_of d.asked ≡ record { dry_run = t.dry_run; conflicts_as_result = t.conflicts_as_result }
  pub command : d.command ≡ logged_transplant t

-- ---- transplants

abbrev pub meta_of : Hash × Commit → Meta
meta_of x = x.1.meta

-- plans that merge nothing, each with what is said of its commit
abbrev pub paired : List Meta → List Plan → List Planned
paired [] plans = []
paired (meta ∷ metas) [] = []
paired (meta ∷ metas) (plan ∷ plans) = record { merge_parent = None; meta = meta; plan = plan } ∷ paired metas plans
