-- A commit that has a spelling has its map where one of its bytes is there already, among commits that have a spelling.
use Rattle.std.proofs.Common.{◌≡◌, ℕ, List, [], ◌∷◌, ◌++◌, Option, Some, Bool, true, false, if◌then◌else◌, ap, subst}
use Rattle.sha2.specs.Sha256.{sha256}
use Rattle.cat_codes.specs.FieldLaws.{one_reading}
use Rattle.cat_names.specs.declared.hash.Hash.{Hash}
use Rattle.cat_model.specs.declared.commit.Commit.{Commit}
use Rattle.cat_model.specs.Chain.{Commits, commit_of, entries}
use Rattle.cat_model.specs.FormatLaws.{commit_is}
use Rattle.cat_model.specs.Formats.{commit_code}
use Rattle.cat_model.specs.Maps.{after_changes}
use Rattle.cat_model.specs.Same.{same_hash}
use Rattle.cat_model.specs.State.{commit_hash}
use Rattle.cat_graph.specs.Linked.{AreLinked}
use Rattle.cat_checks.specs.KeptMaps.{KeepsItsMap}
use Rattle.cat_state.proofs.Upon.{entries_at}

-- each commit has a spelling
abbrev pub AreSpelled : Commits → Type 0
AreSpelled [] = Unit {0}
AreSpelled (x ∷ older) = (commit_code).Fits x.1 × AreSpelled older

some_is : (a b : Commit) → ◌≡◌ {A = Option Commit} (Some a) (Some b) → a ≡ b
some_is a b e = cc

spelled_at : (commits : Commits) (hash : Hash) (kept : Commit) → AreSpelled commits → commit_of commits hash ≡ Some kept → (commit_code).Fits kept
spelled_at [] hash kept are e = absurd cc
spelled_at (x ∷ older) hash kept are e = by (same_hash x.0 hash) (spelled_at older hash kept are.1) e
  where
    by : (t : Bool) → (commit_of older hash ≡ Some kept → (commit_code).Fits kept) → (if t then Some x.1 else commit_of older hash) ≡ Some kept → (commit_code).Fits kept
    by true rest e = subst (λ (k : Commit). (commit_code).Fits k) (some_is x.1 kept e) are.0
    by false rest e = rest e

pub keeps_its_map : (commits : Commits) (c : Commit) → AreLinked commits → AreSpelled commits → (commit_code).Fits c → KeepsItsMap sha256 commits c
keeps_its_map commits c linked are fits kept there same =
    let one : kept ≡ c = (one_reading commit_code commit_is kept c [] [] (spelled_at commits (commit_hash sha256 c) kept are there) fits (ap (λ (bytes : List ℕ). bytes ++ []) same)).0 in
    subst (λ (k : Commit). entries commits (commit_hash sha256 c) ≡ after_changes k.ops (entries commits k.parent)) one (entries_at commits (commit_hash sha256 c) kept linked there)
