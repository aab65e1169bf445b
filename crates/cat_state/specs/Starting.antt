-- Catalogues that a log starts from, made from what a checkpoint tells.
use Rattle.std.specs.Prelude.{◌≡◌, List, [], ◌∷◌, Option, Some, None, Bool, true, false, ◌&&◌, length, nat_le}
use Rattle.sha2.specs.Sha256.{sha256}
use Rattle.cat_names.specs.declared.hash.Hash.{Hash}
use Rattle.cat_model.specs.declared.commit.Commit.{Commit}
use Rattle.cat_model.specs.declared.content.Content.{Content}
use Rattle.cat_model.specs.declared.limits.Limits.{Limits}
use Rattle.cat_model.specs.declared.reference.Reference.{Reference}
use Rattle.cat_model.specs.Chain.{Commits, entries}
use Rattle.cat_model.specs.Maps.{Map, after_changes}
use Rattle.cat_model.specs.Namespaces.{is_well_formed}
use Rattle.cat_frames.specs.Standing.{has_main, heads_known, heads_shown, may_start, stands_above}
use Rattle.cat_model.specs.State.{State}

-- the map at a commit above older ones
abbrev pub map_above : Commits → Commit → Map
map_above older c = after_changes c.ops (entries older c.parent)

-- the map may stand in a start
abbrev pub may_be_map : Limits → Map → Bool
may_be_map limits map = is_well_formed map && nat_le (length map) limits.keys

-- a commit may stand above older ones, with its map
abbrev pub may_stand : Limits → Commits → Hash × Commit → Bool
may_stand limits older x = stands_above sha256 older x.0 x.1 && may_be_map limits (map_above older x.1)

-- so may each above those before it, the newest first
abbrev pub may_all_stand : Limits → Commits → Bool
may_all_stand limits [] = true
may_all_stand limits (x ∷ older) = may_stand limits older x && may_all_stand limits older

-- so may each of these, the oldest first, above others
abbrev pub may_be_added : Limits → Commits → List (Hash × Commit) → Bool
may_be_added limits older [] = true
may_be_added limits older (x ∷ commits) = may_stand limits older x && may_be_added limits (x ∷ older) commits

-- the references are those of a state with these commits and contents
abbrev pub may_be_references : Commits → List (Hash × Content) → List Reference → Bool
may_be_references commits present references = has_main references && heads_known sha256 commits references && heads_shown commits present references

-- a catalogue was made of a state from which a log may start, and none of another
abbrev pub Starts : State → Option State → Type 0
Starts state None = may_start sha256 state ≡ false
Starts state (Some made) = (may_start sha256 state ≡ true) × (made ≡ state)
