-- Chains of which a part was walked before.
use Rattle.std.proofs.Common.{◌≡◌, ℕ, ◌+◌, inl, inr, List, [], ◌∷◌, Option, Some, None, Bool, true, false, cond, ◌||◌, is_some, is_err, OnOk, Result, Ok, Err, refl, sym, ap, subst, ◌∙◌, arith}
use Rattle.std.proofs.lemmas.Bool.{cond-true, or_cases, or_left, or_right}
use Rattle.std.proofs.lemmas.Option.{none-some, same_Some}
use Rattle.cat_codes.specs.Code.{ascends}
use Rattle.cat_names.specs.Fields.{key_cmp}
use Rattle.cat_names.specs.declared.hash.Hash.{Hash}
use Rattle.cat_model.specs.declared.commit.Commit.{Commit}
use Rattle.cat_model.specs.declared.cutoff.Cutoff.{Cutoff}
use Rattle.cat_model.specs.Base.{is_among}
use Rattle.cat_model.specs.Chain.{Commits, chain, commit_of, entries}
use Rattle.cat_model.specs.Cutoffs.{keeps, kept_from, visible}
use Rattle.cat_model.specs.Same.{same_hash}
use Rattle.cat_graph.specs.GraphLaws.{found_is_known, same_is}
use Rattle.cat_graph.specs.Linked.{AreLinked}
use Rattle.cat_model.specs.Maps.{Map}
use Rattle.cat_keymap.specs.MapsAt.{map_at}
use Rattle.cat_mark.specs.Marks.{is_marked, AddsAll, AddsSome, HaveMaps, at_keys, found_map, hashes}
use Rattle.cat_mark.specs.Walked.{AreMarked, AreWalked, Covers, IsWalked, KeepsAsFar, Step, live_on, shown_at, step_of}
use Rattle.cat_mark.proofs.Live.{are_entries, entries_step, kept_shows}
use Rattle.cat_mark.proofs.Marking.{IsUnder, both, unmarked}
use Rattle.cat_mark.proofs.Shares.{among_marked}
use Rattle.cat_mark.proofs.Visible.{shown_at_keys}

-- ---- as far

one_on : (cutoff : Cutoff) (first index : ℕ) → KeepsAsFar cutoff first index → KeepsAsFar cutoff (first + 1) (index + 1)
one_on cutoff first index far more time e =
    let a : index + 1 + more ≡ index + (1 + more) = omega arith in
    let b : first + (1 + more) ≡ first + 1 + more = omega arith in
    subst (λ (n : ℕ). keeps cutoff n time ≡ true) b (far (1 + more) time (subst (λ (n : ℕ). keeps cutoff n time ≡ true) a e))

here : (cutoff : Cutoff) (first index time : ℕ) → KeepsAsFar cutoff first index → keeps cutoff index time ≡ true → keeps cutoff first time ≡ true
here cutoff first index time far e =
    let a : index ≡ index + 0 = omega arith in
    let b : first + 0 ≡ first = omega arith in
    subst (λ (n : ℕ). keeps cutoff n time ≡ true) b (far 0 time (subst (λ (n : ℕ). keeps cutoff n time ≡ true) a e))

-- what is kept of a chain from one index on is kept of it from the other on
kept_within : (commits : Commits) (cutoff : Cutoff) (first index : ℕ) (some : Commits) (x : Hash) → KeepsAsFar cutoff first index
    → is_among (shown_at commits (kept_from cutoff index some)) x ≡ true → is_among (shown_at commits (kept_from cutoff first some)) x ≡ true
kept_within commits cutoff first index [] x far e = absurd cc
kept_within commits cutoff first index (c ∷ some) x far e =
    by (keeps cutoff index c.1.time) refl (kept_within commits cutoff (first + 1) (index + 1) some x (one_on cutoff first index far)) e
  where
    shown : Commits → List Hash
    shown l = shown_at commits (c ∷ l)

    by : (b : Bool) → keeps cutoff index c.1.time ≡ b
        → (is_among (shown_at commits (kept_from cutoff (index + 1) some)) x ≡ true → is_among (shown_at commits (kept_from cutoff (first + 1) some)) x ≡ true)
        → is_among (shown_at commits (cond b (c ∷ kept_from cutoff (index + 1) some) [])) x ≡ true
        → is_among (shown_at commits (kept_from cutoff first (c ∷ some))) x ≡ true
    by false k more f = absurd cc
    by true k more f =
        ap (λ (l : Commits). is_among (shown_at commits l) x) (cond-true (keeps cutoff first c.1.time) (c ∷ kept_from cutoff (first + 1) some) [] (here cutoff first index c.1.time far k))
        ∙ both (visible commits c.0) (shown_at commits (kept_from cutoff (first + 1) some)) x
        ∙ elim (or_cases (is_among (visible commits c.0) x) (is_among (shown_at commits (kept_from cutoff (index + 1) some)) x) (sym (both (visible commits c.0) (shown_at commits (kept_from cutoff (index + 1) some)) x) ∙ f)) [
          | inl first ↦ or_left _ _ first
          | inr rest ↦ or_right _ _ (more rest)
        ]

-- ---- what was walked

-- it stays so while more is marked
pub walked_on : (commits : Commits) (marks more : List Hash) (walked : List (Hash × Step)) → ((x : Hash) → is_marked marks x ≡ true → is_marked more x ≡ true) → AreWalked commits marks walked → AreWalked commits more walked
walked_on commits marks more walked grows are hash step found = record {
  known = (are hash step found).known;
  kept = λ x e. grows x ((are hash step found).kept x e);
  shows = λ x e. grows x ((are hash step found).shows x e);
}

-- what is kept from a commit on that is covered is marked
pub covered : (commits : Commits) (marks : List Hash) (walked : List (Hash × Step)) (cutoff : Cutoff) (index : ℕ) (at : Hash) → AreWalked commits marks walked → Covers (step_of walked at) cutoff index → AreMarked marks (live_on commits cutoff index at)
covered commits marks walked cutoff index at are covers x e =
    let step : Step = (cutoff, covers.0) in
    (are at step covers.1).kept x (kept_within commits cutoff covers.0 index (chain commits at) x covers.2 e)

-- what a commit shows that was walked from is marked
pub shown : (commits : Commits) (marks : List Hash) (walked : List (Hash × Step)) (at : Hash) → AreWalked commits marks walked → is_some (step_of walked at) ≡ true → AreMarked marks (hashes (entries commits at))
shown commits marks walked at are = by (step_of walked at) refl
  where
    by : (found : Option Step) → step_of walked at ≡ found → is_some found ≡ true → AreMarked marks (hashes (entries commits at))
    by None is e = absurd cc
    by (Some step) is e = (are at step is).shows

-- none was walked from
pub none_walked : (commits : Commits) (marks : List Hash) (walked : List (Hash × Step)) → walked ≡ [] → AreWalked commits marks walked
none_walked commits marks walked none hash step found = absurd (none-some step (ap (λ (l : List (Hash × Step)). step_of l hash) (sym none) ∙ found))

-- a commit was noted
pub noted : (commits : Commits) (marks : List Hash) (old new : List (Hash × Step)) (at : Hash) (step : Step) → ((hash : Hash) → step_of new hash ≡ cond (same_hash at hash) (Some step) (step_of old hash))
    → IsWalked commits marks at step → ((hash : Hash) → same_hash at hash ≡ true → at ≡ hash) → AreWalked commits marks old → AreWalked commits marks new
noted commits marks old new at step adds walked same are hash found is = by (same_hash at hash) refl (sym (adds hash) ∙ is)
  where
    by : (b : Bool) → same_hash at hash ≡ b → cond b (Some step) (step_of old hash) ≡ Some found → IsWalked commits marks hash found
    by true s e = subst (λ (h : Hash). IsWalked commits marks h found) (same hash s) (subst (λ (f : Step). IsWalked commits marks at f) (same_Some step found e) walked)
    by false s e = are hash found e

-- ---- what is left

beside_marked : (now left : Bool) → (left ≡ true → now ≡ true) → now ≡ (now || left)
beside_marked true left f = refl
beside_marked false true f = f refl
beside_marked false false f = refl

-- all hashes were marked before
pub were_marked : (marks some : List Hash) → AreMarked marks some → AddsAll marks marks some
were_marked marks some are x = beside_marked (is_marked marks x) (is_among some x) (are x)

-- all that is left is marked
pub none_left : (old now left all : List Hash) → IsUnder old now left all → AreMarked now left → AddsAll old now all
none_left old now left all under are x = beside_marked (is_marked now x) (is_among left x) (are x) ∙ under.rest x

-- so all of it is
pub all_marked : (old new some : List Hash) → AddsAll old new some → AreMarked new some
all_marked old new some adds x e = adds x ∙ or_right (is_marked old x) (is_among some x) e

-- ---- the changes of a commit whose parent is marked

turned : (a b c : Bool) → (a || b) ≡ (c || b) → (b || a) ≡ (b || c)
turned true true c e = refl
turned true false true e = refl
turned true false false e = absurd cc
turned false true c e = refl
turned false false true e = absurd cc
turned false false false e = refl

-- beside the marks, what a commit shows is what its map has at the keys that it changes
pub changes_show : (commits : Commits) (marks : List Hash) (at : Hash) (c : Commit) (x : Hash) → AreLinked commits → ascends key_cmp None c.ops ≡ true → commit_of commits at ≡ Some c → AreMarked marks (hashes (entries commits c.parent))
    → (is_marked marks x || is_among (at_keys (entries commits at) c.ops) x) ≡ (is_marked marks x || is_among (hashes (entries commits at)) x)
changes_show commits marks at c x linked asc found are =
    let older = entries commits c.parent in
    let beside = shown_at_keys c.ops older (entries commits at) marks x asc (are_entries commits c.parent) (entries_step commits at c linked found) (λ e. among_marked marks x ∙ are x e) in
    turned (is_among (at_keys (entries commits at) c.ops) x) (is_marked marks x) (is_among (hashes (entries commits at)) x)
    (ap (λ b. is_among (at_keys (entries commits at) c.ops) x || b) (sym (among_marked marks x)) ∙ sym beside ∙ ap (λ b. is_among (hashes (entries commits at)) x || b) (among_marked marks x))

-- where some are as many as others beside the marks, adding these adds the others
pub adds_others : (old new some others : List Hash) → ((x : Hash) → (is_marked old x || is_among some x) ≡ (is_marked old x || is_among others x)) → AddsAll old new some → AddsAll old new others
adds_others old new some others same adds x = adds x ∙ same x

other_way : (old a b : Bool) → old ≡ false → (old || a) ≡ (old || b) → a ≡ true → b ≡ true
other_way true a b none e f = absurd cc
other_way false a b none e f = sym e ∙ f

pub some_others : (old new some others : List Hash) → ((x : Hash) → (is_marked old x || is_among some x) ≡ (is_marked old x || is_among others x)) → AddsSome old new some → AddsSome old new others
some_others old new some others same adds = record {
  kept = adds.kept;
  only = λ x e. sym (same x) ∙ adds.only x e;
  lacks =
      let x = adds.lacks.hash in record {
        hash = x;
        among = other_way (is_marked old x) (is_among some x) (is_among others x) (unmarked (is_marked old x) (is_marked new x) (adds.kept x) adds.lacks.unmarked) (same x) adds.lacks.among;
        unmarked = adds.lacks.unmarked;
      };
}

-- ---- a commit of the chain

-- where what is kept from a commit on is marked, it was walked from
pub is_walked : (commits : Commits) (marks : List Hash) (cutoff : Cutoff) (index : ℕ) (at : Hash) (c : Commit) → AreLinked commits → commit_of commits at ≡ Some c → keeps cutoff index c.time ≡ true → AreMarked marks (live_on commits cutoff index at) → IsWalked commits marks at (cutoff, index)
is_walked commits marks cutoff index at c linked found keep are = record {
  known = found_is_known commits at c found;
  kept = are;
  shows = λ x e. are x (ap (λ (l : List Hash). is_among l x) (kept_shows commits cutoff index at c linked found keep) ∙ both (hashes (entries commits at)) (live_on commits cutoff (index + 1) c.parent) x ∙ or_left _ _ e);
}

-- and what is kept from its parent on is marked
pub parent_marked : (commits : Commits) (marks : List Hash) (cutoff : Cutoff) (index : ℕ) (at : Hash) (c : Commit) → AreLinked commits → commit_of commits at ≡ Some c → keeps cutoff index c.time ≡ true → AreMarked marks (live_on commits cutoff index at) → AreMarked marks (live_on commits cutoff (index + 1) c.parent)
parent_marked commits marks cutoff index at c linked found keep are x e =
    are x (ap (λ (l : List Hash). is_among l x) (kept_shows commits cutoff index at c linked found keep) ∙ both (hashes (entries commits at)) (live_on commits cutoff (index + 1) c.parent) x ∙ or_right _ _ e)

-- with the map as it is found
pub beside_map : (commits : Commits) (maps : List (Hash × Map)) (marks : List Hash) (walked : List (Hash × Step)) (at : Hash) (c : Commit) → AreLinked commits → ascends key_cmp None c.ops ≡ true → HaveMaps commits maps → commit_of commits at ≡ Some c
    → AreWalked commits marks walked → is_some (step_of walked c.parent) ≡ true → (x : Hash)
    → (is_marked marks x || is_among (at_keys (found_map (map_at maps at)) c.ops) x) ≡ (is_marked marks x || is_among (hashes (entries commits at)) x)
beside_map commits maps marks walked at c linked asc have found are has x =
    ap (λ (m : Map). is_marked marks x || is_among (at_keys m c.ops) x) (have at c found)
    ∙ changes_show commits marks at c x linked asc found (shown commits marks walked c.parent are has)

-- ---- notes

was_ok : {T E P : Type 0} (r : Result T E) → is_err r ≡ false → OnOk r P → P
was_ok (Ok x) e p = p
was_ok (Err why) e p = absurd cc

-- where the note succeeded, its commit was walked from too
pub noted_ok : {T E : Type 0} (commits : Commits) (marks : List Hash) (old new : List (Hash × Step)) (cutoff : Cutoff) (index : ℕ) (at : Hash) (c : Commit) (r : Result T E) → AreLinked commits → commit_of commits at ≡ Some c → keeps cutoff index c.time ≡ true
    → AreMarked marks (live_on commits cutoff index at) → AreWalked commits marks old → is_err r ≡ false → OnOk r ((hash : Hash) → step_of new hash ≡ cond (same_hash at hash) (Some (cutoff, index)) (step_of old hash)) → AreWalked commits marks new
noted_ok commits marks old new cutoff index at c r linked found keep marked walked ok adds =
    noted commits marks old new at (cutoff, index) (was_ok r ok adds) (is_walked commits marks cutoff index at c linked found keep marked) (λ hash same. same_is at hash same) walked
