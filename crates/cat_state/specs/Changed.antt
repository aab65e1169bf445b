-- Tables that take a change: what is new to them.
use Rattle.std.specs.Prelude.{◌≡◌, List, ◌++◌, None, IsTrue}
use Rattle.cat_names.specs.declared.hash.Hash.{Hash}
use Rattle.cat_graph.specs.Linked.{AreLinked}
use Rattle.cat_model.specs.declared.content.Content.{Content}
use Rattle.cat_model.specs.declared.reference.Reference.{Reference}
use Rattle.cat_model.specs.Chain.{Commits}
use Rattle.cat_model.specs.Maps.{Map}
use Rattle.cat_model.specs.State.{reference_of}
use Rattle.cat_tables.specs.Tables.{are_distinct}
use Rattle.cat_state.specs.declared.change.Change.{Change}
use Rattle.cat_state.specs.declared.change.ReferenceChange.{ReferenceChange}
use Rattle.cat_state.specs.declared.change.ReferenceChange.TheVariants.{Made, Moved, Removed}

-- a reference that is made has a new name
abbrev pub HasNewName : List Reference → ReferenceChange → Type 0
HasNewName references (Made reference) = reference_of references reference.name ≡ None
HasNewName references (Moved reference) = Unit {0}
HasNewName references (Removed name) = Unit {0}

-- the hashes of what is added are new, each commit stands above its parents, and a reference that is made has a new name
pub record IsNewTo (references : List Reference) (contents : List (Hash × Content)) (commits : Commits) (maps : List (Hash × Map)) (c : Change) : Type 0 where
  pub new_name : HasNewName references c.reference
  pub distinct_contents : IsTrue (are_distinct (c.additions.contents.list ++ contents))
  pub linked : AreLinked (c.additions.commits.list ++ commits)
  pub distinct_maps : IsTrue (are_distinct (c.additions.maps.list ++ maps))
