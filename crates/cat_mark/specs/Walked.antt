-- Commits that were walked from.
use Rattle.std.specs.Prelude.{◌≡◌, ℕ, ◌+◌, List, Option, Some, true, IsTrue}
use Rattle.std.specs.List.{flat_map}
use Rattle.std.specs.Map.{lookup}
use Rattle.cat_names.specs.declared.hash.Hash.{Hash}
use Rattle.cat_model.specs.declared.cutoff.Cutoff.{Cutoff}
use Rattle.cat_model.specs.Base.{is_among}
use Rattle.cat_model.specs.Chain.{Commits, chain, entries}
use Rattle.cat_model.specs.Cutoffs.{keeps, kept_from, visible}
use Rattle.cat_model.specs.Same.{same_hash}
use Rattle.cat_graph.specs.Linked.{is_known}
use Rattle.cat_mark.specs.Marks.{hashes, is_marked}
use Rattle.cat_mark.specs.declared.marks.Marks.{Marks}

-- a cutoff, and an index
abbrev pub Step : Type 0
Step = Cutoff × ℕ

-- that of a commit, if it was walked from
abbrev pub step_of : List (Hash × Step) → Hash → Option Step
step_of walked hash = lookup (same_hash hash) walked

-- what a cutoff keeps from one index on, it keeps from the other on
abbrev pub KeepsAsFar : Cutoff → ℕ → ℕ → Type 0
KeepsAsFar cutoff first index = (more time : ℕ) → keeps cutoff (index + more) time ≡ true → keeps cutoff (first + more) time ≡ true

-- this cutoff, and an index from which it keeps as many
abbrev pub Covers : Option Step → Cutoff → ℕ → Type 0
Covers found cutoff index = (first : ℕ) × (found ≡ Some (cutoff, first)) × KeepsAsFar cutoff first index

-- what is visible at commits
abbrev pub shown_at : Commits → Commits → List Hash
shown_at commits some = flat_map (λ x. visible commits x.0) some

-- what is visible at the commits that are kept of a chain, by indices from this one on
abbrev pub live_on : Commits → Cutoff → ℕ → Hash → List Hash
live_on commits cutoff index at = shown_at commits (kept_from cutoff index (chain commits at))

-- all hashes are marked
abbrev pub AreMarked : List Hash → List Hash → Type 0
AreMarked marks some = (x : Hash) → IsTrue (is_among some x) → IsTrue (is_marked marks x)

-- a commit is known; what is kept from it on is marked, and so is what it shows
pub record IsWalked (commits : Commits) (marks : List Hash) (hash : Hash) (step : Step) : Type 0 where
  pub known : IsTrue (is_known commits hash)
  pub kept : AreMarked marks (live_on commits step.0 step.1 hash)
  pub shows : AreMarked marks (hashes (entries commits hash))

-- so it is with each commit
abbrev pub AreWalked : Commits → List Hash → List (Hash × Step) → Type 0
AreWalked commits marks walked = (hash : Hash) (step : Step) → step_of walked hash ≡ Some step → IsWalked commits marks hash step

-- so it is with those that marks tell of
abbrev pub HaveWalked : Commits → Marks → Type 0
HaveWalked commits marks = AreWalked commits marks.set marks.walked
