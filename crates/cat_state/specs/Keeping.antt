-- What holds of each catalogue: the map at each commit, the contents that are visible at it, and where references point.
use Rattle.std.specs.Prelude.{◌≡◌, ◌≤◌, ℕ, List, [], ◌∷◌, Option, Some, None, Bool, ◌||◌, is_some, length, nat_le, IsTrue}
use Rattle.std.specs.List.{list_all, list_any}
use Rattle.sha2.specs.Sha256.{sha256}
use Rattle.cat_names.specs.declared.hash.Hash.{Hash}
use Rattle.cat_model.specs.declared.commit.Commit.{Commit}
use Rattle.cat_model.specs.declared.content.Content.{Content}
use Rattle.cat_model.specs.declared.limits.Limits.{Limits}
use Rattle.cat_model.specs.declared.reference.Reference.{Reference}
use Rattle.cat_model.specs.Chain.{Commits, entries}
use Rattle.cat_model.specs.Maps.{Map, after_changes}
use Rattle.cat_model.specs.Namespaces.{is_well_formed}
use Rattle.cat_model.specs.Same.{same_hash}
use Rattle.cat_model.specs.State as state
use Rattle.cat_frames.specs.Standing.{is_within}
use Rattle.cat_tables.specs.References.{heads_pass}
use Rattle.cat_graph.specs.Linked.{is_known, is_merge_known, next_generation}

-- ---- maps

-- the map beside a commit above older ones: it has the commit's hash, is its changes of the map at its parent, and is well-formed
pub record IsBeside (older : Commits) (x : Hash × Commit) (m : Hash × Map) : Type 0 where
  pub hash : m.0 ≡ x.0
  pub changed : m.1 ≡ after_changes x.1.ops (entries older x.1.parent)
  pub well_formed : IsTrue (is_well_formed m.1)

-- each map is so beside its commit, and there are no others
abbrev pub AreKept : List (Hash × Map) → Commits → Type 0
AreKept [] [] = Unit {0}
AreKept [] (x ∷ older) = ⊥
AreKept (m ∷ maps) [] = ⊥
AreKept (m ∷ maps) (x ∷ older) = IsBeside older x m × AreKept maps older

-- the map that was found; none where nothing is
abbrev pub found_map : Option Map → Map
found_map None = []
found_map (Some map) = map

-- a commit that may be added to others, and the map at it: its parents are known, its generation is the next, and the map is its changes of the one at its parent, and well-formed
pub record MayBeAdded (commits : Commits) (c : Commit) (map : Map) : Type 0 where
  pub parent : IsTrue (is_known commits c.parent)
  pub merge_parent : IsTrue (is_merge_known commits c.merge_parent)
  pub generation : c.generation ≡ next_generation commits c
  pub changed : map ≡ after_changes c.ops (entries commits c.parent)
  pub well_formed : IsTrue (is_well_formed map)

-- ---- contents

-- there is a content of the hash, or it is one of the others
abbrev pub is_held : List (Hash × Content) → List Hash → Hash → Bool
is_held present others hash = is_some (state.content_at present hash) || list_any (λ other. same_hash other hash) others

-- there is a content of each entry's hash
abbrev pub has_contents : List (Hash × Content) → Map → Bool
has_contents present map = list_all (λ x. is_some (state.content_at present x.1.hash)) map

-- so it is of each entry that is visible at a commit
abbrev pub is_held_at : Commits → List (Hash × Content) → Hash → Bool
is_held_at commits present hash = has_contents present (entries commits hash)

-- there is a content of each entry that is visible at the commit in this state
abbrev pub IsHeldAt : state.State → Hash → Type 0
IsHeldAt s hash = IsTrue (is_held_at s.commits s.present hash)

-- ---- references

-- a reference that there is points at what the state knows
abbrev pub IsAtCommit : state.State → Option Reference → Type 0
IsAtCommit s None = Unit {0}
IsAtCommit s (Some r) = IsTrue (state.is_known sha256 s r.head)

-- ---- limits

-- a map has no more keys than the limit says
abbrev pub fits : Limits → Map → Bool
fits limits map = nat_le (length map) limits.keys

-- ---- all of it

-- what holds of a catalogue's parts: places and generations don't pass their types' ends, each reference points at a commit or at the hash that has no ancestor, each content that is visible where one points is there, and no limit is passed
pub record IsCatalogue (limits : Limits) (references : List Reference) (commits : Commits) (maps : List (Hash × Map)) (contents : List (Hash × Content)) (place : ℕ) : Type 0 where
  pub log_bound : limits.log ≤ 4294967295
  pub commits_bound : limits.commits ≤ 4294967295
  pub kept : AreKept maps commits
  pub heads : IsTrue (heads_pass (is_known commits) references)
  pub held : IsTrue (heads_pass (is_held_at commits contents) references)
  pub within : IsTrue (is_within (record { place = place; references = references; commits = commits; present = contents; limits = limits }))
