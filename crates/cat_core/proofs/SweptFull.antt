-- A sweep keeps what each state keeps: what is visible where references point is saved.
use Rattle.std.proofs.Common.{◌≡◌, ◌⊎◌, inl, inr, List, [], ◌∷◌, ◌++◌, length, map, filter, None, Bool, true, false, ◌&&◌, ◌||◌, ◌+◌, ◌-◌, take, is_some, if◌then◌else◌, refl, sym, ap, subst, ◌∙◌}
use Rattle.std.specs.List.{flat_map, list_all, list_any}
use Rattle.cat_names.specs.Fields.{Key}
use Rattle.cat_names.specs.declared.hash.Hash.{Hash}
use Rattle.cat_model.specs.declared.commit.Commit.{Commit}
use Rattle.cat_model.specs.declared.content.Content.{Content}
use Rattle.cat_model.specs.declared.cutoff.Cutoff.{Cutoff}
use Rattle.cat_model.specs.declared.cutoff.Resolved.{Resolved}
use Rattle.cat_model.specs.declared.entry.Entry.{Entry}
use Rattle.cat_model.specs.declared.reference.Reference.{Reference}
use Rattle.cat_model.specs.declared.sweep.Sweep.{Sweep}
use Rattle.cat_model.specs.Base.{is_among}
use Rattle.cat_model.specs.Chain.{Commits, chain, entries, map_of}
use Rattle.cat_model.specs.Cutoffs.{cutoff_for, kept, kept_after, live, live_from, visible}
use Rattle.cat_model.specs.Maps.{Map}
use Rattle.cat_model.specs.Same.{same_hash}
use Rattle.cat_model.specs.State.{State, content_at}
use Rattle.cat_model.specs.Sweeps.{kept_by_names, kept_contents, live_since, names_in, needs_sweep_room, saved, since, step_sweep}
use Rattle.cat_tables.specs.ReferenceLaws.{both_true, split}
use Rattle.cat_tables.specs.Tables.{value_of}
use Rattle.cat_checks.specs.AlikeStates.{content_is}
use Rattle.cat_checks.specs.ContentsAlike.{found_staying, hash_same}
use Rattle.cat_state.specs.HeldLaws.{all_among, all_both, all_more, or_right}
use Rattle.cat_state.specs.Keeping.{has_contents, is_held_at}
use Rattle.cat_core.proofs.FullStates.{FullOn, IsFull, full_bind}

-- ---- hashes among others

any_left : {A : Type 0} (test : A → Bool) (xs ys : List A) → list_any test xs ≡ true → list_any test (xs ++ ys) ≡ true
any_left test [] ys any = absurd cc
any_left test (x ∷ xs) ys any = by (test x) any (any_left test xs ys)
  where
    by : (t : Bool) → (t || list_any test xs) ≡ true → (list_any test xs ≡ true → list_any test (xs ++ ys) ≡ true) → (t || list_any test (xs ++ ys)) ≡ true
    by true any rest = refl
    by false any rest = rest any

any_right : {A : Type 0} (test : A → Bool) (xs ys : List A) → list_any test ys ≡ true → list_any test (xs ++ ys) ≡ true
any_right test [] ys any = any
any_right test (x ∷ xs) ys any = or_right (test x) _ (any_right test xs ys any)

-- each hash of a map is among these
abbrev AreAmong : List Hash → Map → Bool
AreAmong hashes shown = list_all (λ (x : Key × Entry). is_among hashes x.1.hash) shown

among_left : (hashes more : List Hash) (shown : Map) → AreAmong hashes shown ≡ true → AreAmong (hashes ++ more) shown ≡ true
among_left hashes more shown are = all_more (λ (x : Key × Entry). is_among hashes x.1.hash) (λ (x : Key × Entry). is_among (hashes ++ more) x.1.hash) shown (λ x e. any_left (λ other. same_hash other x.1.hash) hashes more e) are

among_right : (more hashes : List Hash) (shown : Map) → AreAmong hashes shown ≡ true → AreAmong (more ++ hashes) shown ≡ true
among_right more hashes shown are = all_more (λ (x : Key × Entry). is_among hashes x.1.hash) (λ (x : Key × Entry). is_among (more ++ hashes) x.1.hash) shown (λ x e. any_right (λ other. same_hash other x.1.hash) more hashes e) are

all_mapped : {A B : Type 0} (f : A → B) (test : B → Bool) (xs : List A) → list_all test (map f xs) ≡ true → list_all (λ x. test (f x)) xs ≡ true
all_mapped f test [] all = refl
all_mapped f test (x ∷ xs) all = by (test (f x)) all (all_mapped f test xs)
  where
    by : (t : Bool) → (t && list_all test (map f xs)) ≡ true → (list_all test (map f xs) ≡ true → list_all (λ x. test (f x)) xs ≡ true) → (t && list_all (λ x. test (f x)) xs) ≡ true
    by true all rest = rest all
    by false all rest = absurd cc

-- ---- what is live

own_visible : (shown : Map) → AreAmong (map (λ (x : Key × Entry). x.1.hash) shown) shown ≡ true
own_visible shown = all_mapped (λ (x : Key × Entry). x.1.hash) (is_among (map (λ (x : Key × Entry). x.1.hash) shown)) shown (all_among (map (λ (x : Key × Entry). x.1.hash) shown))

-- a chain begins with the commit of its hash, if it has any
chain_begins : (commits : Commits) (head : Hash) → (chain commits head ≡ []) ⊎ ((x : Hash × Commit) × (rest : Commits) × (chain commits head ≡ x ∷ rest) × (x.0 ≡ head))
chain_begins [] head = inl refl
chain_begins (x ∷ older) head =
    split (same_hash x.0 head)
    (λ is. inr (x, chain older x.1.parent, rw is refl, hash_same x.0 head is))
    (λ is. rw is (chain_begins older head))

live_has : (commits : Commits) (cutoff : Cutoff) (head : Hash) → AreAmong (live_from commits cutoff head) (entries commits head) ≡ true
unfolding live_from entries
live_has commits cutoff head = by (chain_begins commits head)
  where
    by : (chain commits head ≡ []) ⊎ ((x : Hash × Commit) × (rest : Commits) × (chain commits head ≡ x ∷ rest) × (x.0 ≡ head)) → AreAmong (flat_map (λ x. visible commits x.0) (kept cutoff (chain commits head))) (map_of (chain commits head)) ≡ true
    by (inl none) = rw none refl
    by (inr (x, rest, begins, is)) =
        ap (λ (l : Commits). AreAmong (flat_map (λ (x : Hash × Commit). visible commits x.0) (kept cutoff l)) (map_of (chain commits head))) begins
        ∙ subst (λ (h : Hash). AreAmong (visible commits h ++ flat_map (λ (x : Hash × Commit). visible commits x.0) (kept_after cutoff rest)) (map_of (chain commits head)) ≡ true) (sym is)
        (among_left (visible commits head) (flat_map (λ (x : Hash × Commit). visible commits x.0) (kept_after cutoff rest)) (entries commits head) (own_visible (entries commits head)))

-- what is visible where each reference points
live_shown : (commits : Commits) (policy : Resolved) (references : List Reference)
    → list_all (λ (r : Reference). AreAmong (flat_map (λ (r : Reference). live_from commits (cutoff_for policy r.name) r.head) references) (entries commits r.head)) references ≡ true
live_shown commits policy [] = refl
live_shown commits policy (r ∷ references) =
    let first : List Hash = live_from commits (cutoff_for policy r.name) r.head in
    let others : List Hash = flat_map (λ (r : Reference). live_from commits (cutoff_for policy r.name) r.head) references in
    both_true _ _
    (among_left first others (entries commits r.head) (live_has commits (cutoff_for policy r.name) r.head))
    (all_more (λ (q : Reference). AreAmong others (entries commits q.head)) (λ (q : Reference). AreAmong (first ++ others) (entries commits q.head)) references
    (λ q e. among_right first others (entries commits q.head) e) (live_shown commits policy references))

-- ---- what stays

kept_there : (hashes : List Hash) (present : List (Hash × Content)) (hash : Hash) → is_some (content_at present hash) ≡ true → is_among hashes hash ≡ true → is_some (content_at (kept_contents hashes present) hash) ≡ true
unfolding kept_contents
kept_there hashes present hash there among =
    ap is_some
    (content_is (filter (λ x. is_among hashes x.0) present) hash
    ∙ found_staying (is_among hashes) present hash
    ∙ ap (λ (t : Bool). if t then value_of present hash else None) among
    ∙ sym (content_is present hash))
    ∙ there

held_kept : (hashes : List Hash) (present : List (Hash × Content)) (shown : Map) → has_contents present shown ≡ true → AreAmong hashes shown ≡ true → has_contents (kept_contents hashes present) shown ≡ true
held_kept hashes present shown there among =
    all_both (λ (x : Key × Entry). is_some (content_at present x.1.hash)) (λ (x : Key × Entry). is_among hashes x.1.hash) (λ (x : Key × Entry). is_some (content_at (kept_contents hashes present) x.1.hash)) shown
    (λ x e f. kept_there hashes present x.1.hash e f) there among

pub sweep_full : (a : State) (past : List State) (s : Sweep) → IsFull a → FullOn (step_sweep a past s)
unfolding step_sweep saved live_since live
sweep_full a past s full =
    full_bind (needs_sweep_room a (length s.commits + length s.contents)) _ (λ u e.
    let own : List Hash = live a s.policy in
    let others : List Hash = live_since (take (a.place - s.opened) past) s.policy in
    let names : List Hash = kept_by_names a.commits (names_in s) in
    let all : List Hash = saved (since s.opened a past) a.commits s.policy (names_in s) in
    let shown : list_all (λ (r : Reference). AreAmong all (entries a.commits r.head)) a.references ≡ true =
    all_more (λ (r : Reference). AreAmong own (entries a.commits r.head)) (λ (r : Reference). AreAmong all (entries a.commits r.head)) a.references
    (λ r e. among_left (own ++ others) names (entries a.commits r.head) (among_left own others (entries a.commits r.head) e))
    (live_shown a.commits s.policy a.references) in
    record {
      linked = full.linked;
      formed = full.formed;
      heads = full.heads;
      held = all_both (λ r. is_held_at a.commits a.present r.head) (λ (r : Reference). AreAmong all (entries a.commits r.head)) (λ r. is_held_at a.commits (kept_contents all a.present) r.head) a.references
          (λ r e f. held_kept all a.present (entries a.commits r.head) e f) full.held shown;
    })
