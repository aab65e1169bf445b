-- Worked cases of what is live.
use Rattle.std.specs.Prelude.{◌≡◌, refl, ℕ, List, [], ◌∷◌, Some, None, true, false, codes, map}
use Rattle.cat_names.specs.Fields.{Key}
use Rattle.cat_names.specs.declared.hash.Hash.{Hash}
use Rattle.cat_model.specs.declared.commit.Commit.{Commit}
use Rattle.cat_model.specs.declared.commit.Meta.{Meta}
use Rattle.cat_model.specs.declared.cutoff.Cutoff.{Cutoff}
use Rattle.cat_model.specs.declared.cutoff.Cutoff.TheVariants as cutoffs
use Rattle.cat_model.specs.declared.entry.ContentKind.TheVariants.{IcebergTable}
use Rattle.cat_model.specs.Base.{is_among}
use Rattle.cat_model.specs.Chain.{Commits, entries}
use Rattle.cat_model.specs.Cutoffs.{live_from}
use Rattle.cat_model.specs.Maps.{Change}
use Rattle.cat_mark.specs.declared.roots.Roots.{Roots}
use Rattle.cat_mark.specs.Marks.{at_keys, hashes, is_marked, live_of}

abbrev numbered : ℕ → Hash
numbered n = record { bytes = n ∷ [] }

abbrev a : Key
a = codes "a" ∷ []

abbrev b : Key
b = codes "b" ∷ []

-- a key has a content of this hash
abbrev put : Key → ℕ → Change
put key n = (key, Some (record { kind = IcebergTable; id = record { bytes = 0 ∷ [] }; hash = numbered n }))

abbrev nothing_said : Meta
nothing_said = record { message = []; authors = []; signed = []; properties = []; author_time = None }

abbrev made : ℕ → ℕ → ℕ → List Change → Hash × Commit
made n parent time ops = (numbered n, record { parent = numbered parent; merge_parent = None; generation = n; time = time; meta = nothing_said; ops = ops })

-- a's 11, then a's 12 and b's 13, then b's alone
abbrev three : Commits
three = made 3 2 30 ((a, None) ∷ []) ∷ made 2 1 20 (put a 12 ∷ put b 13 ∷ []) ∷ made 1 0 10 (put a 11 ∷ []) ∷ []

-- a commit beside the second one, upon the first
abbrev forked : Commits
forked = made 4 1 40 (put b 14 ∷ []) ∷ three

-- the bytes of the hashes
abbrev bytes : List Hash → List (List ℕ)
bytes = map (λ x. x.bytes)

abbrev live_by : Cutoff → ℕ → List (List ℕ)
live_by cutoff head = bytes (live_from forked cutoff (numbered head))

-- ---- by counts

one_commit : live_by (cutoffs.Commits 1) 3 ≡ (13 ∷ []) ∷ []
unfolding live_from entries
one_commit = refl

two_commits : live_by (cutoffs.Commits 2) 3 ≡ (13 ∷ []) ∷ (12 ∷ []) ∷ (13 ∷ []) ∷ []
unfolding live_from entries
two_commits = refl

all_commits : live_by cutoffs.All 3 ≡ (13 ∷ []) ∷ (12 ∷ []) ∷ (13 ∷ []) ∷ (11 ∷ []) ∷ []
unfolding live_from entries
all_commits = refl

more_than_there_are : live_by (cutoffs.Commits 4) 3 ≡ live_by cutoffs.All 3
unfolding live_from entries
more_than_there_are = refl

an_older_head : live_by (cutoffs.Commits 2) 2 ≡ (12 ∷ []) ∷ (13 ∷ []) ∷ (11 ∷ []) ∷ []
unfolding live_from entries
an_older_head = refl

another_chain : live_by cutoffs.All 4 ≡ (11 ∷ []) ∷ (14 ∷ []) ∷ (11 ∷ []) ∷ []
unfolding live_from entries
another_chain = refl

no_commit : live_by cutoffs.All 0 ≡ []
unfolding live_from entries
no_commit = refl

-- ---- by instants

at_the_time_of_a_commit : live_by (cutoffs.Since 20) 3 ≡ (13 ∷ []) ∷ (12 ∷ []) ∷ (13 ∷ []) ∷ []
unfolding live_from entries
at_the_time_of_a_commit = refl

one_microsecond_before_it : live_by (cutoffs.Since 19) 3 ≡ (13 ∷ []) ∷ (12 ∷ []) ∷ (13 ∷ []) ∷ []
unfolding live_from entries
one_microsecond_before_it = refl

one_microsecond_after_it : live_by (cutoffs.Since 21) 3 ≡ (13 ∷ []) ∷ []
unfolding live_from entries
one_microsecond_after_it = refl

at_the_time_of_the_first : live_by (cutoffs.Since 10) 3 ≡ live_by cutoffs.All 3
unfolding live_from entries
at_the_time_of_the_first = refl

after_all : live_by (cutoffs.Since 31) 3 ≡ (13 ∷ []) ∷ []
unfolding live_from entries
after_all = refl

-- ---- what a walk marks

-- the head changed a key that has nothing, and the map at the second commit has the rest
by_the_oldest_map : bytes (at_keys (entries three (numbered 3)) ((a, None) ∷ [])) ∷ bytes (hashes (entries three (numbered 2))) ∷ [] ≡ [] ∷ ((12 ∷ []) ∷ (13 ∷ []) ∷ []) ∷ []
unfolding entries
by_the_oldest_map = refl

-- the second one changed both keys, and the map at the first has the rest
by_the_keys : bytes (at_keys (entries three (numbered 2)) (put a 12 ∷ put b 13 ∷ [])) ∷ bytes (hashes (entries three (numbered 1))) ∷ [] ≡ ((12 ∷ []) ∷ (13 ∷ []) ∷ []) ∷ ((11 ∷ []) ∷ []) ∷ []
unfolding entries
by_the_keys = refl

-- ---- roots

-- a commit alone, a chain, and a hash
abbrev some_roots : Roots
some_roots = record { heads = (numbered 3, cutoffs.Commits 1) ∷ (numbered 4, cutoffs.Commits 2) ∷ []; hashes = numbered 15 ∷ [] }

roots_together : bytes (live_of forked some_roots) ≡ (13 ∷ []) ∷ (11 ∷ []) ∷ (14 ∷ []) ∷ (11 ∷ []) ∷ (15 ∷ []) ∷ []
unfolding live_from entries
roots_together = refl

-- 12 was visible at the second commit alone
tests : map (λ n. is_among (live_of forked some_roots) (numbered n)) (11 ∷ 12 ∷ 13 ∷ 14 ∷ 15 ∷ []) ≡ true ∷ false ∷ true ∷ true ∷ true ∷ []
unfolding live_from entries
tests = refl

no_roots : live_of forked (record { heads = []; hashes = [] }) ≡ []
no_roots = refl

a_set : map (λ n. is_marked (numbered 11 ∷ numbered 13 ∷ []) (numbered n)) (11 ∷ 12 ∷ 13 ∷ []) ≡ true ∷ false ∷ true ∷ []
a_set = refl
