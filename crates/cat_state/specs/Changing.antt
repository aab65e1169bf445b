-- Changes of a state: what is added to it, and what becomes of a reference.
use Rattle.std.specs.Prelude.{◌≡◌, ◌<◌, List, [], ◌∷◌, ◌++◌, None, IsTrue}
use Rattle.sha2.specs.Sha256.{sha256}
use Rattle.cat_names.specs.declared.hash.Hash.{Hash}
use Rattle.cat_graph.specs.Linked.{AreLinked}
use Rattle.cat_model.specs.declared.reference.Reference.{Reference}
use Rattle.cat_model.specs.Chain.{Commits}
use Rattle.cat_model.specs.Maps.{Map}
use Rattle.cat_model.specs.Moves.{with_references}
use Rattle.cat_model.specs.State.{State, is_known, moved_reference, reference_of, with_reference, without_reference}
use Rattle.cat_tables.specs.Tables.{are_distinct}
use Rattle.cat_frames.specs.Standing.{is_within}
use Rattle.cat_state.specs.declared.additions.Additions.{Additions}
use Rattle.cat_state.specs.declared.change.Change.{Change}
use Rattle.cat_state.specs.declared.change.ReferenceChange.{ReferenceChange}
use Rattle.cat_state.specs.declared.change.ReferenceChange.TheVariants.{Made, Moved, Removed}
use Rattle.cat_state.specs.Keeping.{IsBeside, IsHeldAt}

-- ---- what is added

-- the state with more contents and commits
abbrev pub with_additions : State → Additions → State
with_additions state a = record state { commits = a.commits.list ++ state.commits; present = a.contents.list ++ state.present }

-- the maps are beside commits above older ones, and there are no others
abbrev pub AreBeside : Commits → Commits → List (Hash × Map) → Type 0
AreBeside older [] [] = Unit {0}
AreBeside older [] (m ∷ maps) = ⊥
AreBeside older (x ∷ commits) [] = ⊥
AreBeside older (x ∷ commits) (m ∷ maps) = IsBeside (commits ++ older) x m × AreBeside older commits maps

-- additions to a state: none of their hashes comes twice or is there, and each commit stands above its parents with its map beside it
pub record AreNewTo (state : State) (a : Additions) : Type 0 where
  pub linked : AreLinked (a.commits.list ++ state.commits)
  pub beside : AreBeside state.commits a.commits.list a.maps.list
  pub distinct : IsTrue (are_distinct (a.contents.list ++ state.present))

-- ---- what becomes of a reference

abbrev pub changed_references : List Reference → ReferenceChange → List Reference
changed_references references (Made reference) = with_reference references reference
changed_references references (Moved reference) = moved_reference references reference
changed_references references (Removed name) = without_reference references name

-- a head is known, and each content that is visible there is held
pub record MayBeHead (state : State) (head : Hash) : Type 0 where
  pub known : IsTrue (is_known sha256 state head)
  pub held : IsHeldAt state head

-- it points where a head may be, and one that is made has a new name
abbrev pub MayBecome : State → ReferenceChange → Type 0
MayBecome state (Made reference) = (reference_of state.references reference.name ≡ None) × MayBeHead state reference.head
MayBecome state (Moved reference) = MayBeHead state reference.head
MayBecome state (Removed name) = Unit {0}

-- ---- all of it

-- the state with an entry more, after a change
abbrev pub applied : State → Change → State
applied state c = with_references (with_additions state c.additions) (changed_references state.references c.reference)

-- a change that a state may take: where the state passes none of its limits, so does what the change makes of it
pub record MayBeMade (state : State) (c : Change) : Type 0 where
  pub place : state.place < 4294967295
  pub additions : AreNewTo state c.additions
  pub reference : MayBecome (with_additions state c.additions) c.reference
  pub within : IsTrue (is_within state) → IsTrue (is_within (applied state c))
