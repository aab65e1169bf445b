-- What a sweep leaves: the contents that it keeps, and all that is visible at heads.
use Rattle.std.proofs.Common.{◌≡◌, ◌-◌, List, [], ◌∷◌, take, map, filter, Option, Some, is_some, Bool, true, false, not, ◌||◌, ◌&&◌, if◌then◌else◌, refl, sym, ap, ◌∙◌, subst}
use Rattle.std.specs.List.{flat_map, list_all, list_any}
use Rattle.cat_names.specs.declared.hash.Hash.{Hash}
use Rattle.cat_model.specs.declared.commit.Commit.{Commit}
use Rattle.cat_model.specs.declared.content.Content.{Content}
use Rattle.cat_model.specs.declared.cutoff.Cutoff.{Cutoff}
use Rattle.cat_model.specs.declared.cutoff.Resolved.{Resolved}
use Rattle.cat_model.specs.declared.reference.Reference.{Reference}
use Rattle.cat_model.specs.declared.sweep.Sweep.{Sweep}
use Rattle.cat_model.specs.Base.{is_among}
use Rattle.cat_model.specs.Chain.{Commits, chain, entries, map_of}
use Rattle.cat_model.specs.Cutoffs.{cutoff_for, kept, kept_after, live, live_from, visible}
use Rattle.cat_model.specs.Maps.{Map}
use Rattle.cat_model.specs.Same.{same_hash}
use Rattle.cat_model.specs.State.{State}
use Rattle.cat_model.specs.Sweeps.{kept_by_names, kept_contents, live_since, names_in, saved, since}
use Rattle.cat_graph.specs.GraphLaws.{same_is, same_self}
use Rattle.cat_tables.specs.References.{heads_pass}
use Rattle.cat_tables.specs.ReferenceLaws.{both_true}
use Rattle.cat_tables.specs.Tables.{value_of}
use Rattle.cat_state.specs.Sweeping.{spares, spares_at, without}
use Rattle.cat_core.proofs.Looking.{among_both, any_of_lists, weaker}

-- ---- contents

-- the hashes are those of the contents that aren't saved
abbrev pub AreGone : List Hash → List (Hash × Content) → List Hash → Type 0
AreGone saved present hashes = (hash : Hash) → is_among hashes hash ≡ (is_some (value_of present hash) && not (is_among saved hash))

there_by : (b : Bool) (x : Content) (found : Option Content) → is_some found ≡ true → is_some (if b then Some x else found) ≡ true
there_by true x found e = refl
there_by false x found e = e

first_there : (b : Bool) (x : Content) (found : Option Content) → b ≡ true → is_some (if b then Some x else found) ≡ true
first_there true x found e = refl
first_there false x found e = absurd cc

all_there : (present : List (Hash × Content)) → list_all (λ x. is_some (value_of present x.0)) present ≡ true
all_there [] = refl
all_there (x ∷ older) =
    both_true _ _ (first_there (same_hash x.0 x.0) x.1 (value_of older x.0) (same_self x.0))
    (weaker (λ y. is_some (value_of older y.0)) (λ y. is_some (value_of (x ∷ older) y.0)) older (λ y e. there_by (same_hash x.0 y.0) x.1 (value_of older y.0) e) (all_there older))

pub same_kept : {A : Type 0} (p f g : A → Bool) (xs : List A) → ((x : A) → p x ≡ true → f x ≡ g x) → list_all p xs ≡ true → filter f xs ≡ filter g xs
same_kept p f g [] same all = refl
same_kept p f g (x ∷ xs) same all = by (p x) refl (same_kept p f g xs same) all
  where
    by : (b : Bool) → p x ≡ b → (list_all p xs ≡ true → filter f xs ≡ filter g xs) → (b && list_all p xs) ≡ true → filter f (x ∷ xs) ≡ filter g (x ∷ xs)
    by true here rest all = (λ i. if same x here i then x ∷ rest all i else rest all i)
    by false here rest all = absurd cc

stays_by : (there kept gone : Bool) → gone ≡ (there && not kept) → there ≡ true → not gone ≡ kept
stays_by true true gone e f = ap not e
stays_by true false gone e f = ap not e
stays_by false kept gone e f = absurd cc

-- what is left is what is saved
pub kept_is : (saved : List Hash) (present : List (Hash × Content)) (hashes : List Hash) → AreGone saved present hashes → without hashes present ≡ kept_contents saved present
unfolding kept_contents
kept_is saved present hashes are =
    same_kept (λ x. is_some (value_of present x.0)) (λ x. not (is_among hashes x.0)) (λ x. is_among saved x.0) present
    (λ x e. stays_by (is_some (value_of present x.0)) (is_among saved x.0) (is_among hashes x.0) (are x.0) e) (all_there present)

-- ---- heads

-- no hash that is saved goes
stays : (there kept gone : Bool) → gone ≡ (there && not kept) → kept ≡ true → gone ≡ false
stays true true gone e f = e
stays true false gone e f = absurd cc
stays false kept gone e f = e

or_here : (a b : Bool) → a ≡ true → (a || b) ≡ true
or_here true b e = refl
or_here false b e = absurd cc

or_more : (a b : Bool) → b ≡ true → (a || b) ≡ true
or_more true b e = refl
or_more false b e = e

shown_first : (commits : Commits) (cutoff : Cutoff) (head : Hash) (some : Commits) (hash : Hash) → chain commits head ≡ some → is_among (map (λ x. x.1.hash) (map_of some)) hash ≡ true → ((x : Hash × Commit) (rest : Commits) → some ≡ x ∷ rest → x.0 ≡ head)
    → is_among (map (λ x. x.1.hash) (entries commits head)) hash ≡ true → is_among (flat_map (λ x. visible commits x.0) (kept cutoff some)) hash ≡ true
shown_first commits cutoff head [] hash is e first shown = absurd cc
shown_first commits cutoff head (x ∷ rest) hash is e first shown =
    among_both (visible commits x.0) (flat_map (λ x. visible commits x.0) (kept_after cutoff rest)) hash
    ∙ or_here (is_among (visible commits x.0) hash) _ (subst (λ (h : Hash). is_among (visible commits h) hash ≡ true) (sym (first x rest refl)) shown)

first_by : (b : Bool) (y : Hash × Commit) (above older : Commits) (head : Hash) (x : Hash × Commit) (rest : Commits) → same_hash y.0 head ≡ b → (older ≡ x ∷ rest → x.0 ≡ head) → (if b then y ∷ above else older) ≡ x ∷ rest → x.0 ≡ head
first_by true y above older head x rest same more e = let own : y ≡ x = cc in ap (λ (z : Hash × Commit). z.0) (sym own) ∙ same_is y.0 head same
first_by false y above older head x rest same more e = more e

pub chain_first : (commits : Commits) (head : Hash) (x : Hash × Commit) (rest : Commits) → chain commits head ≡ x ∷ rest → x.0 ≡ head
chain_first [] head x rest e = absurd cc
chain_first (y ∷ older) head x rest e = first_by (same_hash y.0 head) y (chain older y.1.parent) (chain older head) head x rest refl (chain_first older head x rest) e

-- what is visible at a head is live from it
visible_live : (commits : Commits) (cutoff : Cutoff) (head hash : Hash) → is_among (visible commits head) hash ≡ true → is_among (live_from commits cutoff head) hash ≡ true
unfolding live_from entries
visible_live commits cutoff head hash shown = shown_first commits cutoff head (chain commits head) hash refl shown (chain_first commits head) shown

all_spared : (m : Map) (hashes : List Hash) → ((hash : Hash) → is_among (map (λ x. x.1.hash) m) hash ≡ true → is_among hashes hash ≡ false) → spares hashes m ≡ true
all_spared [] hashes spared = refl
all_spared (x ∷ m) hashes spared =
    both_true _ _ (ap not (spared x.1.hash (or_here (same_hash x.1.hash x.1.hash) _ (same_self x.1.hash)))) (all_spared m hashes (λ hash e. spared hash (or_more (same_hash x.1.hash hash) _ e)))

heads_spared : (commits : Commits) (policy : Resolved) (hashes : List Hash) (references : List Reference)
    → ((hash : Hash) → list_any (λ r. is_among (live_from commits (cutoff_for policy r.name) r.head) hash) references ≡ true → is_among hashes hash ≡ false) → heads_pass (spares_at commits hashes) references ≡ true
heads_spared commits policy hashes [] spared = refl
heads_spared commits policy hashes (r ∷ references) spared =
    both_true _ _
    (all_spared (entries commits r.head) hashes (λ hash shown. spared hash (or_here _ _ (visible_live commits (cutoff_for policy r.name) r.head hash shown))))
    (heads_spared commits policy hashes references (λ hash e. spared hash (or_more (is_among (live_from commits (cutoff_for policy r.name) r.head) hash) _ e)))

live_saved : (state : State) (past : List State) (s : Sweep) (hash : Hash) → is_among (live state s.policy) hash ≡ true → is_among (saved (since s.opened state past) state.commits s.policy (names_in s)) hash ≡ true
unfolding saved live_since
live_saved state past s hash e =
    among_both (live_since (since s.opened state past) s.policy) (kept_by_names state.commits (names_in s)) hash
    ∙ or_here _ _ (among_both (live state s.policy) (flat_map (λ t. live t s.policy) (take (state.place - s.opened) past)) hash ∙ or_here _ _ e)

-- nothing goes that is visible at a head
pub spared_heads : (state : State) (past : List State) (s : Sweep) (hashes : List Hash) → AreGone (saved (since s.opened state past) state.commits s.policy (names_in s)) state.present hashes
    → heads_pass (spares_at state.commits hashes) state.references ≡ true
unfolding live
spared_heads state past s hashes are =
    heads_spared state.commits s.policy hashes state.references (λ hash e.
    stays (is_some (value_of state.present hash)) (is_among (saved (since s.opened state past) state.commits s.policy (names_in s)) hash) (is_among hashes hash) (are hash)
    (live_saved state past s hash (any_of_lists (λ r. live_from state.commits (cutoff_for s.policy r.name) r.head) state.references hash ∙ e)))
