-- Generations, and commits that can be added.
use Rattle.std.proofs.Common.{◌≡◌, ℕ, ◌+◌, ◌≤◌, max, List, [], ◌∷◌, Option, Some, None, Bool, true, false, cond, ◌||◌, IsTrue, length, is_some, refl, sym, ap, subst, arith}
use Rattle.std.proofs.lemmas.Bool.{false_from_ne_true}
use Rattle.std.proofs.lemmas.Option.{none-some}
use Rattle.std.specs.Cmp.Lexicographic.{bytes_decides}
use Rattle.sha2.specs.Sha256.{sha256}
use Rattle.cat_names.specs.declared.hash.Hash.{Hash}
use Rattle.cat_model.specs.declared.commit.Commit.{Commit}
use Rattle.cat_model.specs.Chain.{Commits, commit_of, generation, entries}
use Rattle.cat_model.specs.Maps.{after_changes}
use Rattle.cat_model.specs.Same.{same_hash}
use Rattle.cat_model.specs.State.{no_ancestor}
use Rattle.cat_graph.specs.Linked.{AreLinked, IsNext, is_known, merge_generation}

-- ---- hashes

pub same_is : (a b : Hash) → same_hash a b ≡ true → a ≡ b
same_is a b e = ap (λ (bytes : List ℕ). record { bytes = bytes }) ((bytes_decides a.bytes b.bytes).0 e)

pub same_self : (hash : Hash) → same_hash hash hash ≡ true
same_self hash = (bytes_decides hash.bytes hash.bytes).1 refl

unknown : (found : Option Commit) (b : Bool) → found ≡ None → b ≡ false → (is_some found || b) ≡ true → ⊥
unknown None true e f known = cc
unknown None false e f known = cc
unknown (Some c) b e f known = none-some c (sym e)

-- a new commit has another hash than those known before
pub apart : (older : Commits) (hash other : Hash) → commit_of older hash ≡ None → same_hash (no_ancestor sha256) hash ≡ false → is_known older other ≡ true → same_hash hash other ≡ false
apart older hash other absent below known = false_from_ne_true (same_hash hash other) (λ e.
    let known_itself = subst (λ (h : Hash). is_known older h ≡ true) (sym (same_is hash other e)) known in
    unknown (commit_of older hash) (same_hash (no_ancestor sha256) hash) absent below known_itself)

-- ---- generations

either : (b : Bool) (own older most : ℕ) → own ≤ most + 1 → older ≤ most → cond b own older ≤ most + 1
either true own older most e f = e
either false own older most e f = omega (arith, f)

greatest : (own a b most : ℕ) → own ≡ max a b + 1 → a ≤ most → b ≤ most → own ≤ most + 1
greatest own a b most e f g = omega (arith, e, f, g)

merge_bound : (older : Commits) (merge_parent : Option Hash) → ((hash : Hash) → generation older hash ≤ length older) → merge_generation older merge_parent ≤ length older
merge_bound older None bound = omega arith
merge_bound older (Some hash) bound = bound hash

-- no generation is greater than how many commits there are
pub generation_bound : (commits : Commits) (hash : Hash) → AreLinked commits → generation commits hash ≤ length commits
generation_bound [] hash are = omega arith
generation_bound (x ∷ older) hash are =
    let bound : (h : Hash) → generation older h ≤ length older = λ h. generation_bound older h are.2 in
    let own = greatest (x.1).generation (generation older (x.1).parent) (merge_generation older (x.1).merge_parent) (length older) (are.1).generation (bound (x.1).parent) (merge_bound older (x.1).merge_parent bound) in
    let most = either (same_hash x.0 hash) (x.1).generation (generation older hash) (length older) own (bound hash) in
    omega arith

-- ---- what can be added

-- a hash of a commit is known
pub found_is_known : (commits : Commits) (hash : Hash) (c : Commit) → commit_of commits hash ≡ Some c → IsTrue (is_known commits hash)
found_is_known commits hash c e = rw e refl

next_of_one : (own before : ℕ) → own ≡ before + 1 → own ≡ max before 0 + 1
next_of_one own before e = omega (arith, e)

-- a commit upon a known one, which merges nothing, can be added if its generation is the next
pub upon_is_next : (commits : Commits) (hash : Hash) (c : Commit) → same_hash (no_ancestor sha256) hash ≡ false → IsTrue (is_known commits c.parent) → c.merge_parent ≡ None
    → c.generation ≡ generation commits c.parent + 1 → IsNext commits hash c
upon_is_next commits hash c below known alone next = record {
  has_ancestor = below;
  parent = known;
  merge_parent = rw alone refl;
  generation = rw alone (next_of_one c.generation (generation commits c.parent) next);
}

-- commits that are linked are so with one more that can be added, under a hash that is not there
pub linked_more : (commits : Commits) (hash : Hash) (c : Commit) → AreLinked commits → commit_of commits hash ≡ None → IsNext commits hash c → AreLinked ((hash, c) ∷ commits)
linked_more commits hash c are absent next = (absent, next, are)

-- ---- the maps at commits

-- the map at a new commit is the one at its parent after its changes
pub entries_new : (older : Commits) (hash : Hash) (c : Commit) → entries ((hash, c) ∷ older) hash ≡ after_changes c.ops (entries older c.parent)
unfolding entries
entries_new older hash c = rw (same_self hash) refl

-- and those at other hashes stay
pub entries_before : (older : Commits) (hash : Hash) (c : Commit) (other : Hash) → same_hash hash other ≡ false → entries ((hash, c) ∷ older) other ≡ entries older other
unfolding entries
entries_before older hash c other e = rw e refl
