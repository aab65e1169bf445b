-- Commits, their chains, and the map at each of them.
use Rattle.std.specs.Prelude.{ℕ, List, [], ◌∷◌, Option, Some, None, Bool, ◌||◌, if◌then◌else◌, slice_get}
use Rattle.cat_names.specs.declared.hash.Hash.{Hash}
use Rattle.cat_model.specs.declared.commit.Commit.{Commit}
use Rattle.cat_model.specs.Same.{same_hash}
use Rattle.cat_model.specs.Maps.{Map, after_changes}

-- commits and their hashes, the newest first, each below its parents
abbrev pub Commits : Type 0
Commits = List (Hash × Commit)

-- the commit of a hash
abbrev pub commit_of : Commits → Hash → Option Commit
commit_of [] hash = None
commit_of (x ∷ older) hash = if same_hash x.0 hash then Some x.1 else commit_of older hash

-- the commits from this hash back to the first
abbrev pub chain : Commits → Hash → Commits
chain [] hash = []
chain (x ∷ older) hash = if same_hash x.0 hash then x ∷ chain older x.1.parent else chain older hash

-- the hashes of a chain, from this one to the one that has no ancestor
abbrev pub members : Commits → Hash → List Hash
members [] hash = hash ∷ []
members (x ∷ older) hash = if same_hash x.0 hash then hash ∷ members older x.1.parent else members older hash

-- the member of this number of a chain, counted from 0, where there is one
abbrev pub back : Commits → Hash → ℕ → Option Hash
back commits hash n = slice_get (members commits hash) n

-- the map after the changes of a chain, the oldest commit's first
abbrev pub map_of : Commits → Map
map_of [] = []
map_of (x ∷ older) = after_changes x.1.ops (map_of older)

-- the map at a commit
unfoldable pub entries : Commits → Hash → Map
entries commits hash = map_of (chain commits hash)

-- the hash is on the chain of the head, whose end is the hash that has no ancestor
abbrev pub on_chain : Commits → Hash → Hash → Bool
on_chain [] head hash = same_hash head hash
on_chain (x ∷ older) head hash = if same_hash x.0 head then same_hash head hash || on_chain older x.1.parent hash else on_chain older head hash

-- the generation of a hash: a commit's own, and 0 for the one that has no ancestor
abbrev pub generation : Commits → Hash → ℕ
generation [] hash = 0
generation (x ∷ older) hash = if same_hash x.0 hash then x.1.generation else generation older hash
