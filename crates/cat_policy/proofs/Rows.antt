-- Worked cases of cutoffs as texts, and of policies.
use Rattle.std.specs.Prelude.{◌≡◌, refl, ℕ, List, [], ◌∷◌, Option, Some, None, option_map, true, codes, map, replicate}
use Rattle.jiff.proofs.OnLiterals.{jiff_on_literals}
use Rattle.serde_json.specs.Data.{Data, null, boolean, string, array, object, no_items, item, no_members, member}
use Rattle.cat_names.specs.RefNames.{is_reference_name}
use Rattle.cat_model.specs.declared.cutoff.Cutoff.{Cutoff}
use Rattle.cat_model.specs.declared.cutoff.Cutoff.TheVariants.{All, Commits, Since}
use Rattle.cat_model.specs.declared.cutoff.Pattern.TheVariants.{Name, Front}
use Rattle.cat_model.specs.Cutoffs.{pattern_of}
use Rattle.cat_policy.specs.declared.given.GivenCutoff.TheVariants.{Fixed, Back}
use Rattle.cat_policy.specs.declared.policy.Policy.{Policy}
use Rattle.cat_policy.specs.GivenCutoffs.{cutoff_at, cutoff_of}
use Rattle.cat_policy.specs.Policies.{Rule, policy_as, policy_of, policy_with, resolved, rule_of}

-- what a text comes to at a moment of one day and five microseconds
abbrev in_a_day : List ℕ → Option Cutoff
in_a_day text = option_map (cutoff_at 86_400_000_005) (cutoff_of text)

-- ---- all commits, and counts of them

words : map cutoff_of (codes "NONE" ∷ codes "none" ∷ codes "NoNe" ∷ []) ≡ Some (Fixed All) ∷ Some (Fixed All) ∷ Some (Fixed All) ∷ []
unfolding cutoff_of
words = refl

counts : map cutoff_of (codes "1" ∷ codes "0000000007" ∷ codes "4294967295" ∷ []) ≡ Some (Fixed (Commits 1)) ∷ Some (Fixed (Commits 7)) ∷ Some (Fixed (Commits 4294967295)) ∷ []
unfolding cutoff_of
counts = refl

no_counts : map cutoff_of (codes "0" ∷ codes "4294967296" ∷ codes "9999999999" ∷ []) ≡ None ∷ None ∷ None ∷ []
unfolding cutoff_of
no_counts = refl

-- what isn't a count is an instant, and none at that
eleven_digits : cutoff_of (codes "00000000001") ≡ None
unfolding cutoff_of jiff_on_literals
eleven_digits = refl

a_sign : cutoff_of (codes "+1") ≡ None
unfolding cutoff_of jiff_on_literals
a_sign = refl

nothing : cutoff_of [] ≡ None
unfolding cutoff_of jiff_on_literals
nothing = refl

-- ---- durations

a_day : in_a_day (codes "P1D") ≡ Some (Since 5)
unfolding cutoff_of jiff_on_literals
a_day = refl

two_days : in_a_day (codes "P2D") ≡ Some (Since 0)
unfolding cutoff_of jiff_on_literals
two_days = refl

a_week_and_a_half_second : cutoff_of (codes "P1WT0.5000009S") ≡ Some (Back 604_800_500_000)
unfolding cutoff_of jiff_on_literals
a_week_and_a_half_second = refl

no_years_at_all : cutoff_of (codes "P0Y1D") ≡ Some (Back 86_400_000_000)
unfolding cutoff_of jiff_on_literals
no_years_at_all = refl

a_month : cutoff_of (codes "P1M") ≡ None
unfolding cutoff_of jiff_on_literals
a_month = refl

a_year : cutoff_of (codes "P1Y") ≡ None
unfolding cutoff_of jiff_on_literals
a_year = refl

a_negative_day : cutoff_of (codes "-P1D") ≡ None
unfolding cutoff_of jiff_on_literals
a_negative_day = refl

a_small_letter : cutoff_of (codes "p1D") ≡ None
unfolding cutoff_of jiff_on_literals
a_small_letter = refl

-- ---- instants

an_instant : in_a_day (codes "1970-01-01T00:00:01.0000019Z") ≡ Some (Since 1_000_001)
unfolding cutoff_of jiff_on_literals
an_instant = refl

before_1970 : cutoff_of (codes "1969-12-31T23:59:59.9999999Z") ≡ None
unfolding cutoff_of jiff_on_literals
before_1970 = refl

no_offset : cutoff_of (codes "1970-01-01T00:00:01") ≡ None
unfolding cutoff_of jiff_on_literals
no_offset = refl

-- ---- policies

-- a front, and texts that are cut at the first of two signs
signs : map rule_of (codes "a*=NONE" ∷ codes "main=2=3" ∷ codes "main==2" ∷ []) ≡ Some (Front (codes "a"), Fixed All) ∷ None ∷ None ∷ []
unfolding rule_of cutoff_of pattern_of is_reference_name jiff_on_literals
signs = refl

abbrev so_many : ℕ → List Rule
so_many number = replicate number (Front [], Fixed All)

a_thousand : policy_with (Fixed All) (so_many 1000) ≡ Some (record { default = Fixed All; cutoffs = so_many 1000 })
a_thousand = refl

one_more : policy_with (Fixed All) (so_many 1001) ≡ None
one_more = refl

abbrev main_by_two : Policy
main_by_two = record { default = Fixed All; cutoffs = (Name (codes "main"), Fixed (Commits 2)) ∷ [] }

by_words : policy_of (codes "NONE") (codes "main=2" ∷ []) ≡ Some main_by_two
unfolding cutoff_of rule_of pattern_of is_reference_name
by_words = refl

no_sign : policy_of (codes "NONE") (codes "main" ∷ []) ≡ None
unfolding cutoff_of rule_of pattern_of is_reference_name
no_sign = refl

no_pattern : policy_of (codes "NONE") (codes "=2" ∷ []) ≡ None
unfolding cutoff_of rule_of pattern_of is_reference_name
no_pattern = refl

abbrev body : Data → Data → Data → Data
body default pattern cutoff = object
    (member (codes "cutoffs") (array (item (object (member (codes "cutoff") cutoff (member (codes "pattern") pattern no_members))) no_items))
    (member (codes "defaultCutoff") default no_members))

by_json : policy_as (body (string (codes "none")) (string (codes "main")) (string (codes "2"))) ≡ Some main_by_two
unfolding policy_as cutoff_of pattern_of is_reference_name
by_json = refl

null_is_none : policy_as (body null (string (codes "main")) (string (codes "2"))) ≡ Some main_by_two
unfolding policy_as cutoff_of pattern_of is_reference_name
null_is_none = refl

nothing_asked : policy_as (object no_members) ≡ Some (record { default = Fixed All; cutoffs = [] })
unfolding policy_as cutoff_of
nothing_asked = refl

other_types : policy_as (body (boolean true) (string (codes "main")) (string (codes "2")))
    ∷ policy_as (body null null (string (codes "2"))) ∷ policy_as (body null (string (codes "main")) null) ∷ policy_as null ∷ policy_as (array no_items) ∷ []
    ≡ None ∷ None ∷ None ∷ None ∷ None ∷ []
unfolding policy_as cutoff_of pattern_of is_reference_name
other_types = refl

at_a_moment : resolved 86_400_000_005 (record { default = Back 86_400_000_000; cutoffs = (Front [], Back 86_400_000_006) ∷ [] })
    ≡ record { default = Since 5; cutoffs = (Front [], Since 0) ∷ [] }
at_a_moment = refl
