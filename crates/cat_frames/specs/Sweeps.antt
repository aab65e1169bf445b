-- The byte format of sweeps: the place of their opening, their policy, and what drafts named meanwhile.
use Rattle.std.specs.Prelude.{ℕ, zero, suc, List, ◌++◌, Bool, true, ◌&&◌, Option, Some, None, nat_lt, codes}
use Rattle.std.specs.Cmp.Lexicographic.{slice_cmp}
use Rattle.std.specs.List.{list_all}
use Rattle.std.specs.Ordering.{nat_cmp}
use Rattle.std.specs.declared.cmp.Ordering.{Ordering}
use Rattle.cat_codes.specs.declared.fault.FieldFault.TheVariants.{Range}
use Rattle.cat_codes.specs.Code.{Code, ◌⊗◌, as_type, ascending_keys, by_tag, keys_ascend, list, nothing, only, u32_code, variant}
use Rattle.cat_codes.specs.Texts.{text_code}
use Rattle.cat_names.specs.declared.hash.Hash.{Hash}
use Rattle.cat_names.specs.Fields.{hash_code}
use Rattle.cat_model.specs.declared.cutoff.Cutoff.{Cutoff}
use Rattle.cat_model.specs.declared.cutoff.Cutoff.TheVariants as cutoffs
use Rattle.cat_model.specs.declared.cutoff.Pattern.{Pattern}
use Rattle.cat_model.specs.declared.cutoff.Pattern.TheVariants as patterns
use Rattle.cat_model.specs.declared.cutoff.Resolved.{Resolved}
use Rattle.cat_model.specs.declared.sweep.Sweep.{Sweep}
use Rattle.cat_model.specs.Cutoffs.{pattern_of}
use Rattle.cat_model.specs.Formats.{moment_code}
use Rattle.cat_frames.specs.Telling.{always, read_by}

-- ---- cutoffs

-- the number of a kind of cutoff
abbrev pub cutoff_number : Cutoff → ℕ
cutoff_number cutoffs.All = 0
cutoff_number (cutoffs.Commits count) = 1
cutoff_number (cutoffs.Since moment) = 2

abbrev pub as_count : Cutoff → Option ℕ
as_count cutoffs.All = None
as_count (cutoffs.Commits count) = Some count
as_count (cutoffs.Since moment) = None

abbrev pub as_moment : Cutoff → Option ℕ
as_moment cutoffs.All = None
as_moment (cutoffs.Commits count) = None
as_moment (cutoffs.Since moment) = Some moment

-- a number of commits, which isn't 0
abbrev pub count_code : Code ℕ
count_code = only Range (nat_lt 0) u32_code

-- a cutoff of the kind of this number
abbrev pub cutoff_of : ℕ → Code Cutoff
cutoff_of zero = always cutoffs.All
cutoff_of (suc zero) = variant cutoffs.Commits as_count count_code
cutoff_of (suc (suc zero)) = variant cutoffs.Since as_moment moment_code
cutoff_of (suc (suc (suc n))) = nothing

-- a cutoff, by its number
unfoldable pub cutoff_code : Code Cutoff
cutoff_code = by_tag cutoff_number cutoff_of

-- ---- policies

-- a name, or a front of names and a star
abbrev pub pattern_text : Pattern → List ℕ
pattern_text (patterns.Name name) = name
pattern_text (patterns.Front front) = front ++ codes "*"

-- a text that is a pattern
unfoldable pub pattern_code : Code Pattern
pattern_code = read_by pattern_text pattern_of text_code

-- a pattern and its cutoff
abbrev pub Rule : Type 0
Rule = Pattern × Cutoff

abbrev pub rule_code : Code Rule
rule_code = pattern_code ⊗ cutoff_code

-- the default cutoff, and those of patterns
unfoldable pub resolved_code : Code Resolved
resolved_code = as_type (λ r. (r.default, r.cutoffs)) (λ x. record { default = x.0; cutoffs = x.1 }) (cutoff_code ⊗ list rule_code)

-- ---- sweeps

-- by bytes, the first that differs
abbrev pub hash_cmp : Hash → Hash → Ordering
hash_cmp a b = slice_cmp nat_cmp a.bytes b.bytes

-- hashes that ascend and are distinct
abbrev pub hashes_code : Code (List Hash)
hashes_code = ascending_keys hash_cmp hash_code

-- a sweep
unfoldable pub sweep_code : Code Sweep
sweep_code = as_type
    (λ s. (s.opened, (s.policy, (s.commits, s.contents))))
    (λ x. record { opened = x.0; policy = x.1.0; commits = x.1.1.0; contents = x.1.1.1 })
    (u32_code ⊗ resolved_code ⊗ hashes_code ⊗ hashes_code)

-- ---- the sweeps that have a spelling

-- a number of commits isn't 0
abbrev pub cutoff_is_logged : Cutoff → Bool
cutoff_is_logged cutoffs.All = true
cutoff_is_logged (cutoffs.Commits count) = nat_lt 0 count
cutoff_is_logged (cutoffs.Since moment) = true

abbrev pub are_logged : List Rule → Bool
are_logged rules = list_all (λ x. cutoff_is_logged x.1) rules

abbrev pub resolved_is_logged : Resolved → Bool
resolved_is_logged r = cutoff_is_logged r.default && are_logged r.cutoffs

-- they ascend and are distinct
abbrev pub hashes_ascend : List Hash → Bool
hashes_ascend hashes = keys_ascend hash_cmp None hashes

abbrev pub sweep_is_logged : Sweep → Bool
sweep_is_logged s = resolved_is_logged s.policy && hashes_ascend s.commits && hashes_ascend s.contents
