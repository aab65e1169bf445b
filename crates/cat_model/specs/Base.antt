-- Ancestors of commits, and the merge base of two.
use Rattle.std.specs.Prelude.{List, [], ◌∷◌, ◌++◌, Bool, ◌&&◌, ◌||◌, nat_eq, nat_lt, filter, if◌then◌else◌}
use Rattle.std.specs.List.{list_any}
use Rattle.std.specs.Cmp.Lexicographic.{slice_cmp}
use Rattle.std.specs.Ordering.{nat_cmp, is_lt}
use Rattle.std.specs.Option.{option_map_or}
use Rattle.cat_names.specs.declared.hash.Hash.{Hash}
use Rattle.cat_model.specs.Same.{same_hash}
use Rattle.cat_model.specs.Chain.{Commits, generation}

-- a hash, and the ancestors of its parent and its merge parent; the hash that has no ancestor is among them
abbrev pub ancestors : Commits → Hash → List Hash
ancestors [] hash = hash ∷ []
ancestors (x ∷ older) hash =
    if same_hash x.0 hash
    then hash ∷ (ancestors older x.1.parent ++ option_map_or (ancestors older) x.1.merge_parent [])
    else ancestors older hash

-- one of the hashes
abbrev pub is_among : List Hash → Hash → Bool
is_among hashes hash = list_any (λ other. same_hash other hash) hashes

-- the ancestors of both
unfoldable pub common_ancestors : Commits → Hash → Hash → List Hash
common_ancestors commits a b = filter (is_among (ancestors commits b)) (ancestors commits a)

-- a hash before another one by their bytes
abbrev pub hash_before : Hash → Hash → Bool
hash_before a b = is_lt (slice_cmp nat_cmp a.bytes b.bytes)

-- of a greater generation, or of the same one and the lesser hash
unfoldable pub is_nearer : Commits → Hash → Hash → Bool
is_nearer commits a b =
    nat_lt (generation commits b) (generation commits a)
    || (nat_eq (generation commits a) (generation commits b) && hash_before a b)

-- the nearest of these hashes and one more
abbrev pub nearest : Commits → Hash → List Hash → Hash
nearest commits best [] = best
nearest commits best (hash ∷ hashes) = nearest commits (if is_nearer commits hash best then hash else best) hashes

-- the nearest of these hashes; another one where there are none
abbrev pub nearest_of : Commits → Hash → List Hash → Hash
nearest_of commits other [] = other
nearest_of commits other (hash ∷ hashes) = nearest commits hash hashes

-- the merge base of two commits: their common ancestor of the greatest generation, and of these the one of the least hash
unfoldable pub base : Commits → Hash → Hash → Hash
base commits a b = nearest_of commits a (common_ancestors commits a b)
