-- Worked cases of cutoffs and patterns.
use Rattle.std.specs.Prelude.{◌≡◌, refl, ℕ, List, [], ◌∷◌, Some, None, true, false, codes, map}
use Rattle.cat_names.specs.RefNames.{is_reference_name}
use Rattle.cat_names.specs.declared.hash.Hash.{Hash}
use Rattle.cat_model.specs.declared.commit.Commit.{Commit}
use Rattle.cat_model.specs.declared.commit.Meta.{Meta}
use Rattle.cat_model.specs.declared.cutoff.Cutoff.{Cutoff}
use Rattle.cat_model.specs.declared.cutoff.Cutoff.TheVariants as cutoffs
use Rattle.cat_model.specs.declared.cutoff.Pattern.TheVariants.{Name, Front}
use Rattle.cat_model.specs.declared.cutoff.Resolved.{Resolved}
use Rattle.cat_model.specs.declared.entry.ContentKind.TheVariants.{IcebergTable}
use Rattle.cat_model.specs.declared.reference.Kind.TheVariants.{Branch}
use Rattle.cat_model.specs.declared.reference.Reference.{Reference}
use Rattle.cat_model.specs.Chain.{Commits, entries}
use Rattle.cat_model.specs.Cutoffs.{keeps, kept, pattern_of, matches, cutoff_for, live_from, live}
use Rattle.cat_model.specs.Limits.{program_limits}
use Rattle.cat_model.specs.State.{State}

abbrev main : List ℕ
main = codes "main"

abbrev dev : List ℕ
dev = codes "dev"

abbrev numbered : ℕ → Hash
numbered n = record { bytes = n ∷ [] }

abbrev nothing_said : Meta
nothing_said = record { message = []; authors = []; signed = []; properties = []; author_time = None }

-- a commit of a time that puts a content of its own hash at one key
abbrev made : ℕ → ℕ → ℕ → Hash × Commit
made n parent time = (
  numbered n,
  record {
    parent = numbered parent;
    merge_parent = None;
    generation = n;
    time = time;
    meta = nothing_said;
    ops = (codes "t" ∷ [], Some (record { kind = IcebergTable; id = record { bytes = 0 ∷ [] }; hash = numbered n })) ∷ [];
  },
)

-- one after the other
abbrev three : Commits
three = made 3 2 30 ∷ made 2 1 20 ∷ made 1 0 10 ∷ []

-- the first commit's clock was ahead
abbrev uneven : Commits
uneven = made 3 2 30 ∷ made 2 1 10 ∷ made 1 0 20 ∷ []

abbrev times : Cutoff → Commits → List ℕ
times cutoff commits = map (λ x. x.1.time) (kept cutoff commits)

-- ---- commits

all_is_kept : times cutoffs.All three ≡ 30 ∷ 20 ∷ 10 ∷ []
all_is_kept = refl

one_is_the_head : times (cutoffs.Commits 1) three ≡ 30 ∷ []
one_is_the_head = refl

two : times (cutoffs.Commits 2) three ≡ 30 ∷ 20 ∷ []
two = refl

more_than_there_are : times (cutoffs.Commits 7) three ≡ 30 ∷ 20 ∷ 10 ∷ []
more_than_there_are = refl

at_the_time_of_a_commit : times (cutoffs.Since 20) three ≡ 30 ∷ 20 ∷ []
at_the_time_of_a_commit = refl

one_microsecond_before_it : times (cutoffs.Since 19) three ≡ 30 ∷ 20 ∷ []
one_microsecond_before_it = refl

one_microsecond_after_it : times (cutoffs.Since 21) three ≡ 30 ∷ []
one_microsecond_after_it = refl

the_head_is_kept : times (cutoffs.Since 31) three ≡ 30 ∷ []
the_head_is_kept = refl

nothing_behind_an_older_one : times (cutoffs.Since 15) uneven ≡ 30 ∷ []
nothing_behind_an_older_one = refl

an_empty_chain : times (cutoffs.Commits 2) [] ≡ []
an_empty_chain = refl

by_indices : keeps (cutoffs.Commits 1) 0 0 ∷ keeps (cutoffs.Commits 1) 1 0 ∷ keeps (cutoffs.Commits 2) 1 0 ∷ keeps (cutoffs.Commits 2) 2 0 ∷ keeps cutoffs.All 9 0 ∷ []
    ≡ true ∷ false ∷ true ∷ false ∷ true ∷ []
by_indices = refl

by_times : keeps (cutoffs.Since 20) 1 20 ∷ keeps (cutoffs.Since 19) 1 20 ∷ keeps (cutoffs.Since 21) 1 20 ∷ keeps (cutoffs.Since 21) 0 20 ∷ []
    ≡ true ∷ true ∷ false ∷ true ∷ []
by_times = refl

-- ---- patterns

a_front_matches : map (matches (Front (codes "ma"))) (main ∷ codes "ma" ∷ codes "m" ∷ dev ∷ []) ≡ true ∷ true ∷ false ∷ false ∷ []
a_front_matches = refl

a_name_matches : map (matches (Name main)) (main ∷ codes "ma" ∷ codes "main1" ∷ []) ≡ true ∷ false ∷ false ∷ []
a_name_matches = refl

the_empty_front_matches_all : map (matches (Front [])) (main ∷ codes "m" ∷ []) ≡ true ∷ true ∷ []
the_empty_front_matches_all = refl

patterns_as_texts : map pattern_of (main ∷ codes "ma*" ∷ codes "*" ∷ codes "a/*" ∷ codes "a.*" ∷ [])
    ≡ Some (Name main) ∷ Some (Front (codes "ma")) ∷ Some (Front []) ∷ Some (Front (codes "a/")) ∷ Some (Front (codes "a.")) ∷ []
unfolding pattern_of is_reference_name
patterns_as_texts = refl

no_patterns : map pattern_of ([] ∷ codes "a/" ∷ codes "1*" ∷ codes "a..*" ∷ codes "ma*n" ∷ codes "ma**" ∷ codes "ma?" ∷ [])
    ≡ None ∷ None ∷ None ∷ None ∷ None ∷ None ∷ None ∷ []
unfolding pattern_of is_reference_name
no_patterns = refl

-- ---- policies

-- of two patterns that match main
abbrev either : Resolved
either = record { default = cutoffs.All; cutoffs = (Front (codes "ma"), cutoffs.Commits 1) ∷ (Name main, cutoffs.Commits 2) ∷ [] }

the_first_pattern_counts : map (cutoff_for either) (main ∷ codes "ma" ∷ dev ∷ []) ≡ cutoffs.Commits 1 ∷ cutoffs.Commits 1 ∷ cutoffs.All ∷ []
the_first_pattern_counts = refl

abbrev points : List ℕ → ℕ → Reference
points name n = record { name = name; kind = Branch; head = numbered n }

abbrev holding : List Reference → State
holding references = record { place = 3; references = references; commits = three; present = []; limits = program_limits }

-- dev keeps its head, and main two commits, of which that head is one
abbrev main_by_two : Resolved
main_by_two = record { default = cutoffs.Commits 1; cutoffs = (Name main, cutoffs.Commits 2) ∷ [] }

a_commit_of_two_references : live (holding (points dev 2 ∷ points main 3 ∷ [])) main_by_two ≡ numbered 2 ∷ numbered 3 ∷ numbered 2 ∷ []
unfolding live live_from entries
a_commit_of_two_references = refl

by_one_reference : live (holding (points dev 1 ∷ points main 3 ∷ [])) main_by_two ≡ numbered 1 ∷ numbered 3 ∷ numbered 2 ∷ []
unfolding live live_from entries
by_one_reference = refl

no_commit_no_content : live (holding (points main 0 ∷ [])) main_by_two ≡ []
unfolding live live_from entries
no_commit_no_content = refl
