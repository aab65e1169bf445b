-- What a sweep that was closed keeps is what it kept while it was open, and it may be logged.
use Rattle.std.proofs.Common.{◌≡◌, ◌≤◌, List, [], ◌∷◌, length, Bool, true, false, not, ◌||◌, ◌&&◌, refl, sym, ap, ◌∙◌, subst}
use Rattle.std.specs.List.{flat_map, list_all, list_any}
use Rattle.std.proofs.lemmas.Bool.{le-leb}
use Rattle.sha2.specs.Sha256.{sha256}
use Rattle.cat_checks.specs.Legal.{may_be_swept, most_patterns}
use Rattle.cat_frames.specs.Sweeps.{resolved_is_logged, sweep_is_logged}
use Rattle.cat_mark.specs.declared.roots.Roots.{Roots}
use Rattle.cat_mark.specs.Marks.{live_of}
use Rattle.cat_model.specs.declared.sweep.Sweep.{Sweep}
use Rattle.cat_model.specs.Base.{is_among}
use Rattle.cat_model.specs.Book.{Book}
use Rattle.cat_model.specs.Chain.{Commits}
use Rattle.cat_model.specs.Cutoffs.{visible}
use Rattle.cat_model.specs.Drafts.{Names, OpenSweep}
use Rattle.cat_model.specs.Past.{past_of}
use Rattle.cat_model.specs.Same.{same_hash}
use Rattle.cat_model.specs.State.{is_known}
use Rattle.cat_model.specs.Sweeps.{hash_set, kept_by_names, live_since, saved, since, sweep_of}
use Rattle.cat_names.specs.declared.hash.Hash.{Hash}
use Rattle.cat_graph.specs.GraphLaws.{same_is, same_self}
use Rattle.cat_core.specs.Stored.{AreKnown}
use Rattle.cat_core.specs.Sweeping.{saved_on}
use Rattle.cat_core.specs.Sweeps.{AreAllMarked, AreGiven, Completes, given_by, kept_by}
use Rattle.cat_core.proofs.HashSets.{in_set, set_rises}
use Rattle.cat_core.proofs.Looking.{among_both, any_of_lists}

-- ---- lists with the same hashes

or_here : (a b : Bool) → a ≡ true → (a || b) ≡ true
or_here true b e = refl
or_here false b e = absurd cc

or_later : (a b : Bool) → b ≡ true → (a || b) ≡ true
or_later true b e = refl
or_later false b e = e

by_or : {P : Type 0} (a b : Bool) → (a || b) ≡ true → (a ≡ true → P) → (b ≡ true → P) → P
by_or true b e f g = f refl
by_or false b e f g = g e

one_passes : (f : Hash → Bool) (ys : List Hash) (hash : Hash) → f hash ≡ true → is_among ys hash ≡ true → list_any f ys ≡ true
one_passes f [] hash e among = absurd cc
one_passes f (y ∷ ys) hash e among =
    by_or (same_hash y hash) (is_among ys hash) among
    (λ same. or_here (f y) (list_any f ys) (ap f (same_is y hash same) ∙ e))
    (λ later. or_later (f y) (list_any f ys) (one_passes f ys hash e later))

passes_in : (f : Hash → Bool) (xs ys : List Hash) → ((hash : Hash) → is_among xs hash ≡ true → is_among ys hash ≡ true) → list_any f xs ≡ true → list_any f ys ≡ true
passes_in f [] ys same e = absurd cc
passes_in f (x ∷ xs) ys same e =
    by_or (f x) (list_any f xs) e
    (λ here. one_passes f ys x here (same x (or_here (same_hash x x) (is_among xs x) (same_self x))))
    (λ later. passes_in f xs ys (λ hash among. same hash (or_later (same_hash x hash) (is_among xs hash) among)) later)

either_way : (a b : Bool) → (a ≡ true → b ≡ true) → (b ≡ true → a ≡ true) → a ≡ b
either_way true b f g = sym (f refl)
either_way false true f g = g refl
either_way false false f g = refl

any_in_set : (f : Hash → Bool) (hashes : List Hash) → list_any f (hash_set hashes) ≡ list_any f hashes
any_in_set f hashes =
    either_way _ _
    (passes_in f (hash_set hashes) hashes (λ hash among. sym (in_set hashes hash) ∙ among))
    (passes_in f hashes (hash_set hashes) (λ hash among. in_set hashes hash ∙ among))

-- each of a set passes where each of the list does
not_false : (b : Bool) → not b ≡ true → b ≡ false
not_false true e = absurd cc
not_false false e = refl

all_by_none : (p : Hash → Bool) (hashes : List Hash) → list_any (λ h. not (p h)) hashes ≡ not (list_all p hashes)
all_by_none p [] = refl
all_by_none p (x ∷ hashes) = by (p x) (all_by_none p hashes)
  where
    by : (b : Bool) → list_any (λ h. not (p h)) hashes ≡ not (list_all p hashes) → (not b || list_any (λ h. not (p h)) hashes) ≡ not (b && list_all p hashes)
    by true e = e
    by false e = refl

back : (a b : Bool) → not a ≡ not b → a ≡ b
back true true e = refl
back true false e = absurd cc
back false true e = absurd cc
back false false e = refl

pub all_in_set : (p : Hash → Bool) (hashes : List Hash) → list_all p (hash_set hashes) ≡ list_all p hashes
all_in_set p hashes = back _ _ (sym (all_by_none p (hash_set hashes)) ∙ any_in_set (λ h. not (p h)) hashes ∙ all_by_none p hashes)

-- ---- what it keeps

names_same : (commits : Commits) (names : Names) (hash : Hash) → is_among (kept_by_names commits (record { commits = hash_set names.commits; contents = hash_set names.contents })) hash ≡ is_among (kept_by_names commits names) hash
names_same commits names hash =
    among_both (flat_map (visible commits) (hash_set names.commits)) (hash_set names.contents) hash
    ∙ (λ i. (any_of_lists (visible commits) (hash_set names.commits) hash ∙ any_in_set (λ c. is_among (visible commits c) hash) names.commits ∙ sym (any_of_lists (visible commits) names.commits hash)) i || in_set names.contents hash i)
    ∙ sym (among_both (flat_map (visible commits) names.commits) names.contents hash)

saved_same : (book : Book) (o : OpenSweep) (hash : Hash) → is_among (saved_on book (sweep_of o.opening.place o.policy o.names)) hash ≡ is_among (kept_by book o) hash
unfolding saved
saved_same book o hash =
    let states = since o.opening.place book.state (past_of sha256 book) in
    among_both (live_since states o.policy) (kept_by_names book.state.commits (record { commits = hash_set o.names.commits; contents = hash_set o.names.contents })) hash
    ∙ ap (λ (b : Bool). is_among (live_since states o.policy) hash || b) (names_same book.state.commits o.names hash)
    ∙ sym (among_both (live_since states o.policy) (kept_by_names book.state.commits o.names) hash)

-- the marks of what was given, and the roots of the rest
pub all_marked : (book : Book) (o : OpenSweep) (s : Sweep) (marks : List Hash) (roots : Roots) → s ≡ sweep_of o.opening.place o.policy o.names → AreGiven book o marks → Completes book.state.commits (given_by book o) roots (kept_by book o) → AreAllMarked book s marks roots
all_marked book o s marks roots is given completes hash =
    ap (λ (s : Sweep). is_among (saved_on book s) hash) is ∙ saved_same book o hash ∙ completes hash
    ∙ ap (λ (b : Bool). b || is_among (live_of book.state.commits roots) hash) (sym (given hash))

-- ---- it may be logged

both_true : (a b : Bool) → a ≡ true → b ≡ true → (a && b) ≡ true
both_true true b e f = f
both_true false b e f = absurd cc

pub may_sweep : (book : Book) (o : OpenSweep) (s : Sweep) → s ≡ sweep_of o.opening.place o.policy o.names → book.base.place ≤ o.opening.place → o.opening.place ≤ book.state.place → AreKnown book.state o.names.commits → length o.policy.cutoffs ≤ most_patterns → may_be_swept sha256 book s ≡ true
may_sweep book o s is first place known few =
    subst (λ (s : Sweep). may_be_swept sha256 book s ≡ true) (sym is)
    (both_true _ _ (both_true _ _ (both_true _ _ (le-leb _ _ first) (le-leb _ _ place)) (all_in_set (is_known sha256 book.state) o.names.commits ∙ known)) (le-leb _ _ few))

pub may_log : (o : OpenSweep) (s : Sweep) → s ≡ sweep_of o.opening.place o.policy o.names → resolved_is_logged o.policy ≡ true → sweep_is_logged s ≡ true
may_log o s is logged =
    subst (λ (s : Sweep). sweep_is_logged s ≡ true) (sym is)
    (both_true _ _ (both_true _ _ logged (set_rises o.names.commits)) (set_rises o.names.contents))
