-- Commits that may be added.
use Rattle.std.proofs.Common.{◌≡◌, ℕ, ◌+◌, max, Some, None, IsTrue, refl, arith}
use Rattle.cat_names.specs.declared.hash.Hash.{Hash}
use Rattle.cat_graph.specs.Linked.{is_known}
use Rattle.cat_model.specs.declared.commit.Commit.{Commit}
use Rattle.cat_model.specs.Chain.{Commits, entries, generation}
use Rattle.cat_model.specs.Maps.{Map, after_changes}
use Rattle.cat_model.specs.Namespaces.{is_well_formed}
use Rattle.cat_state.specs.Keeping.{MayBeAdded}

-- the next of one generation
pub next_of_one : (own before : ℕ) → own ≡ before + 1 → own ≡ max before 0 + 1
next_of_one own before e = omega (arith, e)

-- a commit upon a known one, which merges nothing, with the next generation
pub upon_may_be_added : (commits : Commits) (c : Commit) (map : Map) → IsTrue (is_known commits c.parent) → c.merge_parent ≡ None → c.generation ≡ generation commits c.parent + 1
    → map ≡ after_changes c.ops (entries commits c.parent) → IsTrue (is_well_formed map) → MayBeAdded commits c map
upon_may_be_added commits c map known alone next changed well = record {
  parent = known;
  merge_parent = rw alone refl;
  generation = rw alone (next_of_one c.generation (generation commits c.parent) next);
  changed = changed;
  well_formed = well;
}

-- a commit upon a known one, into which another known one is merged, with the next generation
pub merge_may_be_added : (commits : Commits) (c : Commit) (map : Map) (other : Hash) → IsTrue (is_known commits c.parent) → c.merge_parent ≡ Some other → IsTrue (is_known commits other)
    → c.generation ≡ max (generation commits c.parent) (generation commits other) + 1 → map ≡ after_changes c.ops (entries commits c.parent) → IsTrue (is_well_formed map) → MayBeAdded commits c map
merge_may_be_added commits c map other known merges also next changed well = record {
  parent = known;
  merge_parent = rw merges also;
  generation = rw merges next;
  changed = changed;
  well_formed = well;
}
