-- Named references, by ascending names.
use Rattle.std.specs.Prelude.{ℕ, List, [], ◌∷◌, Option, Some, Bool, true, ◌&&◌, ◌≡◌, map}
use Rattle.std.specs.Cmp.Lexicographic.{slice_cmp}
use Rattle.std.specs.List.{list_all}
use Rattle.std.specs.Ordering.{nat_cmp, is_lt}
use Rattle.cat_names.specs.declared.hash.Hash.{Hash}
use Rattle.cat_model.specs.declared.reference.Reference.{Reference}

-- whether the first name is below the second
abbrev pub is_below : List ℕ → List ℕ → Bool
is_below a b = is_lt (slice_cmp nat_cmp a b)

-- each name is below all that follow
abbrev pub names_ascend : List Reference → Bool
names_ascend [] = true
names_ascend (first ∷ references) = list_all (λ r. is_below first.name r.name) references && names_ascend references

-- each is held under its name
abbrev pub AreNamed : List (List ℕ × Reference) → Type 0
AreNamed [] = Unit {0}
AreNamed (x ∷ named) = (x.0 ≡ x.1.name) × AreNamed named

-- each head passes
abbrev pub heads_pass : (Hash → Bool) → List Reference → Bool
heads_pass pass references = list_all (λ r. pass r.head) references

-- the changes that put references under their names
abbrev pub all_named : List Reference → List (List ℕ × Option Reference)
all_named references = map (λ r. (r.name, Some r)) references
