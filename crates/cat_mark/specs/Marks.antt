-- What is marked, and what roots keep live.
use Rattle.std.specs.Prelude.{◌≡◌, ℕ, List, [], ◌∷◌, ◌++◌, Option, Some, None, Bool, false, ◌||◌, IsTrue, if◌then◌else◌, Result, IfOk, length, get_or, ◌<◌, ◌≤◌, ◌*◌}
use Rattle.std.specs.Fork.{slice_chunk}
use Rattle.std.specs.List.{flat_map, list_any}
use Rattle.cat_names.specs.Fields.{Key}
use Rattle.cat_names.specs.declared.hash.Hash.{Hash}
use Rattle.cat_model.specs.declared.commit.Commit.{Commit}
use Rattle.cat_model.specs.declared.cutoff.Cutoff.{Cutoff}
use Rattle.cat_model.specs.declared.entry.Entry.{Entry}
use Rattle.cat_model.specs.Base.{is_among}
use Rattle.cat_model.specs.Chain.{Commits, commit_of, entries}
use Rattle.cat_model.specs.Cutoffs.{keeps, live_from}
use Rattle.cat_model.specs.Maps.{Map, Change, entry_of}
use Rattle.cat_model.specs.Same.{same_hash}
use Rattle.cat_keymap.specs.MapsAt.{map_at}
use Rattle.cat_mark.specs.declared.roots.Roots.{Roots}

-- ---- marks

-- the hash is in the set, whatever the order of its list
abbrev pub is_marked : List Hash → Hash → Bool
is_marked marks hash = list_any (same_hash hash) marks

-- what is marked now was marked before, or is one of the hashes
abbrev pub AddsAll : List Hash → List Hash → List Hash → Type 0
AddsAll old new hashes = (x : Hash) → is_marked new x ≡ (is_marked old x || is_among hashes x)

-- one of the hashes isn't marked
pub record Lacks (marks hashes : List Hash) : Type 0 where
  pub hash : Hash
  pub among : IsTrue (is_among hashes hash)
  pub unmarked : is_marked marks hash ≡ false

-- what was marked before still is, what is marked now was before or is one of the hashes, and one of these isn't marked
pub record AddsSome (old new hashes : List Hash) : Type 0 where
  pub kept : (x : Hash) → IsTrue (is_marked old x) → IsTrue (is_marked new x)
  pub only : (x : Hash) → IsTrue (is_marked new x) → IsTrue (is_marked old x || is_among hashes x)
  pub lacks : Lacks new hashes

-- ---- maps

-- the hash of an entry, where there is one
abbrev pub hash_in : Option Entry → List Hash
hash_in None = []
hash_in (Some entry) = entry.hash ∷ []

-- the hash that a map has at a key
abbrev pub at_key : Map → Key → List Hash
at_key map key = hash_in (entry_of map key)

-- the hashes that a map has at the keys of changes
abbrev pub at_keys : Map → List Change → List Hash
at_keys map changes = flat_map (λ c. at_key map c.0) changes

-- the hashes of a map's entries
abbrev pub hashes : Map → List Hash
hashes map = flat_map (λ x. x.1.hash ∷ []) map

-- the map that was found; none where nothing is
abbrev pub found_map : Option Map → Map
found_map None = []
found_map (Some map) = map

-- the map at each commit is found by the commit's hash, where it has a key
abbrev pub HaveMaps : Commits → List (Hash × Map) → Type 0
HaveMaps commits maps = (hash : Hash) (c : Commit) → commit_of commits hash ≡ Some c → found_map (map_at maps hash) ≡ entries commits hash

-- ---- commits

-- the commit, where a cutoff keeps it at the index
abbrev pub if_kept : Cutoff → ℕ → Option Commit → Option Commit
if_kept cutoff index None = None
if_kept cutoff index (Some c) = if keeps cutoff index c.time then Some c else None

-- what is live from each of the heads
abbrev pub live_from_all : Commits → List (Hash × Cutoff) → List Hash
live_from_all commits heads = flat_map (λ head. live_from commits head.1 head.0) heads

-- what roots keep live: what is live from each of their heads, and their hashes
abbrev pub live_of : Commits → Roots → List Hash
live_of commits roots = live_from_all commits roots.heads ++ roots.hashes

-- each of the sets that are there has what is live from the heads of the chunk of its number, and all heads are in these chunks
pub record AreShares {E : Type 0} (commits : Commits) (heads : List (Hash × Cutoff)) (size : ℕ) (sets : List (Result (List Hash) E)) : Type 0 where
  pub each : (k : ℕ) (d : Result (List Hash) E) → k < length sets → IfOk (get_or sets k d) (λ set. AddsAll [] set (live_from_all commits (slice_chunk heads size k)))
  pub all : length heads ≤ length sets * size
