-- Hashes that two commits' histories have come to, on the way to the merge base.
use Rattle.std.specs.Prelude.{◌≡◌, ℕ, ◌<◌, List, [], ◌∷◌, Bool, false, ◌||◌, length, sum_by, All}
use Rattle.std.specs.List.{list_any}
use Rattle.std.specs.Cmp.Lexicographic.{slice_cmp}
use Rattle.std.specs.Ordering.{nat_cmp, ordering_then}
use Rattle.std.specs.declared.cmp.Ordering.{Ordering}
use Rattle.cat_names.specs.declared.hash.Hash.{Hash}
use Rattle.cat_model.specs.Chain.{Commits, generation}
use Rattle.cat_model.specs.Base.{ancestors, is_among}
use Rattle.cat_model.specs.Same.{same_hash}
use Rattle.cat_graph.specs.declared.front.Reached.{Reached}

-- by the generation, and in one generation the lesser hash above the greater
abbrev pub nearness : Reached → Reached → Ordering
nearness a b = ordering_then (nat_cmp a.generation b.generation) (slice_cmp nat_cmp b.hash.0.bytes a.hash.0.bytes)

-- a hash with its generation
abbrev pub reached : Commits → Hash → Reached
reached commits hash = record { generation = generation commits hash; hash = record { 0 = hash } }

-- each has its hash's generation
abbrev pub HaveGenerations : Commits → List Reached → Type 0
HaveGenerations commits front = All (λ at. at.generation ≡ generation commits at.hash.0) front

-- the hash is an ancestor of one of them
abbrev pub is_behind : Commits → List Reached → Hash → Bool
is_behind commits front hash = list_any (λ at. is_among (ancestors commits at.hash.0) hash) front

-- how many ancestors they have, each as often as there are ways to it
abbrev pub ways : Commits → List Reached → ℕ
ways commits front = sum_by (λ at. length (ancestors commits at.hash.0)) front

-- the hash is the first one's
abbrev pub is_first : List Reached → Hash → Bool
is_first [] hash = false
is_first (at ∷ others) hash = same_hash at.hash.0 hash

-- a front after its first one was gone on from: its ancestors are those of the new front and that one itself
pub record GoesOn (commits : Commits) (old new : List Reached) : Type 0 where
  pub generations : HaveGenerations commits new
  pub behind : (hash : Hash) → is_behind commits old hash ≡ (is_first old hash || is_behind commits new hash)
  pub fewer : ways commits new < ways commits old
