-- What is found in a list that stands in front of another.
use Rattle.std.proofs.Common.{◌≡◌, ℕ, List, [], ◌∷◌, ◌++◌, Option, Some, None, Bool, true, false, cond, refl, sym, ap, ◌∙◌}
use Rattle.std.specs.Option.{option_or}
use Rattle.cat_names.specs.declared.hash.Hash.{Hash}
use Rattle.cat_tables.specs.LookUps.{value_is_found, value_is_only}
use Rattle.cat_tables.specs.Tables.{value_of}
use Rattle.cat_model.specs.declared.commit.Commit.{Commit}
use Rattle.cat_model.specs.declared.content.Content.{Content}
use Rattle.cat_model.specs.Chain.{Commits, commit_of, generation}
use Rattle.cat_model.specs.Same.{same_hash}
use Rattle.cat_model.specs.State.{content_at}

-- ---- values

module _ {V : Type 0} where
  over_by : (b : Bool) (v : V) (first second : Option V) → cond b (Some v) (option_or first second) ≡ option_or (cond b (Some v) first) second
  over_by true v first second = refl
  over_by false v first second = refl

  -- the value of a hash is the one in front, or else the other
  pub value_over : (more base : List (Hash × V)) (hash : Hash) → value_of (more ++ base) hash ≡ option_or (value_of more hash) (value_of base hash)
  value_over [] base hash = refl
  value_over (x ∷ more) base hash =
      ap (λ (found : Option V). cond (same_hash x.0 hash) (Some x.1) found) (value_over more base hash) ∙ over_by (same_hash x.0 hash) x.1 (value_of more hash) (value_of base hash)

  first_absent : (first second : Option V) → option_or first second ≡ None → first ≡ None
  first_absent None second e = refl
  first_absent (Some v) second e = absurd cc

  -- what is in neither isn't in front
  pub absent_in_front : (more base : List (Hash × V)) (hash : Hash) → value_of (more ++ base) hash ≡ None → value_of more hash ≡ None
  absent_in_front more base hash absent = first_absent (value_of more hash) (value_of base hash) (sym (value_over more base hash) ∙ absent)

-- ---- contents and commits

pub content_over : (more base : List (Hash × Content)) (hash : Hash) → content_at (more ++ base) hash ≡ option_or (value_of more hash) (content_at base hash)
content_over more base hash = sym (value_is_found (more ++ base) hash) ∙ value_over more base hash ∙ ap (option_or (value_of more hash)) (value_is_found base hash)

commit_is : (commits : Commits) (hash : Hash) → commit_of commits hash ≡ value_of commits hash
commit_is commits hash = value_is_only commit_of (λ h. refl) (λ x older h. refl) commits hash

pub commit_over : (more base : Commits) (hash : Hash) → commit_of (more ++ base) hash ≡ option_or (value_of more hash) (commit_of base hash)
commit_over more base hash = commit_is (more ++ base) hash ∙ value_over more base hash ∙ ap (option_or (value_of more hash)) (sym (commit_is base hash))

pub commit_absent_in_front : (more base : Commits) (hash : Hash) → commit_of (more ++ base) hash ≡ None → value_of more hash ≡ None
commit_absent_in_front more base hash absent = absent_in_front more base hash (sym (commit_is (more ++ base) hash) ∙ absent)

-- ---- generations

abbrev own_generation : Option Commit → ℕ
own_generation None = 0
own_generation (Some c) = c.generation

generation_by : (b : Bool) (c : Commit) (older : ℕ) (found : Option Commit) → older ≡ own_generation found → cond b c.generation older ≡ own_generation (cond b (Some c) found)
generation_by true c older found e = refl
generation_by false c older found e = e

own_generation_is : (commits : Commits) (hash : Hash) → generation commits hash ≡ own_generation (commit_of commits hash)
own_generation_is [] hash = refl
own_generation_is (x ∷ older) hash = generation_by (same_hash x.0 hash) x.1 (generation older hash) (commit_of older hash) (own_generation_is older hash)

-- the generation of a hash is its commit's, or 0
pub generation_none : (commits : Commits) (hash : Hash) → commit_of commits hash ≡ None → generation commits hash ≡ 0
generation_none commits hash e = own_generation_is commits hash ∙ ap own_generation e

pub generation_some : (commits : Commits) (hash : Hash) (c : Commit) → commit_of commits hash ≡ Some c → generation commits hash ≡ c.generation
generation_some commits hash c e = own_generation_is commits hash ∙ ap own_generation e
