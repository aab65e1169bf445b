-- Commits above their parents, and hashes in a row.
use Rattle.std.specs.Prelude.{ℕ, ◌+◌, max, List, [], ◌∷◌, Option, Some, None, Bool, true, false, ◌&&◌, ◌||◌, ◌≡◌, not, nat_eq, is_some, IsTrue, map, if◌then◌else◌}
use Rattle.std.proofs.Common.{Bor}
use Rattle.sha2.specs.Sha256.{sha256}
use Rattle.cat_names.specs.declared.hash.Hash.{Hash}
use Rattle.cat_model.specs.declared.commit.Commit.{Commit}
use Rattle.cat_model.specs.Chain.{Commits, commit_of, generation}
use Rattle.cat_model.specs.Same.{same_hash}
use Rattle.cat_model.specs.State.{no_ancestor}

-- a commit has the hash, or it is the one that has no ancestor
abbrev pub is_known : Commits → Hash → Bool
is_known commits hash = is_some (commit_of commits hash) || same_hash (no_ancestor sha256) hash

-- the generation of a merge's other parent; 0 where there is none
abbrev pub merge_generation : Commits → Option Hash → ℕ
merge_generation commits None = 0
merge_generation commits (Some hash) = generation commits hash

-- a merge's other parent is known, where there is one
abbrev pub is_merge_known : Commits → Option Hash → Bool
is_merge_known commits None = true
is_merge_known commits (Some hash) = is_known commits hash

-- one more than the greatest generation of the parents
abbrev pub next_generation : Commits → Commit → ℕ
next_generation commits c = max (generation commits c.parent) (merge_generation commits c.merge_parent) + 1

-- a commit that can be added under the hash: its parents are known, and its generation is one more than the greatest of theirs
pub record IsNext (commits : Commits) (hash : Hash) (c : Commit) : Type 0 where
  pub has_ancestor : same_hash (no_ancestor sha256) hash ≡ false
  pub parent : IsTrue (is_known commits c.parent)
  pub merge_parent : IsTrue (is_merge_known commits c.merge_parent)
  pub generation : c.generation ≡ next_generation commits c

-- the test of it
abbrev pub is_next : Commits → Hash → Commit → Bool
is_next commits hash c = not (same_hash (no_ancestor sha256) hash) && is_known commits c.parent && is_merge_known commits c.merge_parent && nat_eq c.generation (next_generation commits c)

-- each commit was added to those older, under a hash that none of them had
abbrev pub AreLinked : Commits → Type 0
AreLinked [] = Unit {0}
AreLinked (x ∷ older) = (commit_of older x.0 ≡ None) × IsNext older x.0 x.1 × AreLinked older

-- one commit more, unless there is one of its hash
abbrev pub with_commit : Hash → Commit → Commits → Commits
with_commit hash c commits = if is_some (commit_of commits hash) then commits else (hash, c) ∷ commits

-- there is a commit, and it is another
abbrev pub IsOther : Option Commit → Commit → Type 0
IsOther None c = ⊥
IsOther (Some kept) c = kept ≡ c → ⊥

-- the commits that references point at, under their hashes
abbrev pub values : List (Bor Hash × Bor Commit) → Commits
values pairs = map (λ x. (x.0.now, x.1.now)) pairs

-- the hashes of commits
abbrev pub hashes : Commits → List Hash
hashes commits = map (λ x. x.0) commits
