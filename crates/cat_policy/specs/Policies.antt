-- Policies as words and JSON ask for them, and what they come to at a moment.
use Rattle.std.specs.Prelude.{ℕ, ◌==◌, ◌≤◌, ◌&&◌, List, [], ◌∷◌, length, map, Option, Some, None, is_some, Bool, true, IsTrue, nat_lt, if◌then◌else◌, codes}
use Rattle.std.specs.List.{after_first, before_first, list_all, position}
use Rattle.serde_json.specs.Data.{Data}
use Rattle.serde_json.specs.Find.{as_object, as_str}
use Rattle.cat_json.specs.Reading.{◌>>=◌, defaulted, list_as, required}
use Rattle.cat_model.specs.declared.cutoff.Cutoff.{Cutoff}
use Rattle.cat_model.specs.declared.cutoff.Cutoff.TheVariants.{All, Commits, Since}
use Rattle.cat_model.specs.declared.cutoff.Pattern.{Pattern}
use Rattle.cat_model.specs.declared.cutoff.Resolved.{Resolved}
use Rattle.cat_model.specs.Cutoffs.{pattern_of}
use Rattle.cat_policy.specs.declared.given.GivenCutoff.{GivenCutoff}
use Rattle.cat_policy.specs.declared.given.GivenCutoff.TheVariants.{Fixed, Back}
use Rattle.cat_policy.specs.declared.policy.Policy.{Policy}
use Rattle.cat_policy.specs.GivenCutoffs.{cutoff_as, cutoff_at, cutoff_of}

-- a pattern and its cutoff
abbrev pub Rule : Type 0
Rule = Pattern × GivenCutoff

-- at most 1,000 patterns
abbrev pub HasFew : Policy → Type 0
HasFew policy = length policy.cutoffs ≤ 1000

-- a number of commits isn't 0
abbrev pub counts : Cutoff → Bool
counts All = true
counts (Commits count) = nat_lt 0 count
counts (Since moment) = true

abbrev pub given_counts : GivenCutoff → Bool
given_counts (Fixed cutoff) = counts cutoff
given_counts (Back length) = true

-- no number of commits that is asked for is 0
abbrev pub HasCounts : Policy → Type 0
HasCounts policy = IsTrue (given_counts policy.default && list_all (λ x. given_counts x.1) policy.cutoffs)

-- the policy of a default and rules, unless these are too many
abbrev pub policy_with : GivenCutoff → List Rule → Option Policy
policy_with default cutoffs = if nat_lt 1000 (length cutoffs) then None else Some (record { default = default; cutoffs = cutoffs })

-- ---- words

abbrev pub is_equals : ℕ → Bool
is_equals byte = byte == 61

-- a pattern, `=` and a cutoff
unfoldable pub rule_of : List ℕ → Option Rule
rule_of text =
    if is_some (position is_equals text) then
    (pattern_of (before_first is_equals text) >>= λ pattern.
    cutoff_of (after_first is_equals text) >>= λ cutoff.
    Some (pattern, cutoff))
    else None

-- what each stands for, where all have a reading
abbrev pub all_of : {A B : Type 0} → (A → Option B) → List A → Option (List B)
all_of read [] = Some []
all_of read (x ∷ xs) = read x >>= λ y. all_of read xs >>= λ ys. Some (y ∷ ys)

-- a default cutoff, and rules
abbrev pub policy_of : List ℕ → List (List ℕ) → Option Policy
policy_of default rules =
    cutoff_of default >>= λ default.
    all_of rule_of rules >>= λ cutoffs.
    policy_with default cutoffs

-- ---- JSON

abbrev pub pattern_as : Data → Option Pattern
pattern_as d = as_str d >>= pattern_of

abbrev pub rule_as : Data → Option Rule
rule_as d =
    required pattern_as (codes "pattern") d >>= λ pattern.
    required cutoff_as (codes "cutoff") d >>= λ cutoff.
    Some (pattern, cutoff)

-- an object, both of whose members may be absent or null
unfoldable pub policy_as : Data → Option Policy
policy_as d =
    as_object d >>= λ _.
    defaulted cutoff_as (Fixed All) (codes "defaultCutoff") d >>= λ default.
    defaulted (list_as rule_as) [] (codes "cutoffs") d >>= λ cutoffs.
    policy_with default cutoffs

-- ---- at a moment

abbrev pub resolved : ℕ → Policy → Resolved
resolved moment policy = record {
  default = cutoff_at moment policy.default;
  cutoffs = map (λ x. (x.0, cutoff_at moment x.1)) policy.cutoffs;
}

-- no number of commits in it is 0
abbrev pub ResolvedCounts : Resolved → Type 0
ResolvedCounts policy = IsTrue (counts policy.default && list_all (λ x. counts x.1) policy.cutoffs)
