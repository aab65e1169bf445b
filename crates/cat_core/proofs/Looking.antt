-- What was live at the states since a place: what is live now, and from the references that were taken since.
use Rattle.std.proofs.Common.{◌≡◌, ℕ, zero, suc, ◌+◌, ◌-◌, ◌≤◌, List, [], ◌∷◌, ◌++◌, length, take, drop, reverse, map, Option, Some, None, Bool, true, false, not, ◌||◌, if◌then◌else◌, refl, sym, ap, ◌∙◌, append_assoc, arith}
use Rattle.std.proofs.lemmas.Grind.{reverse_onto}
use Rattle.std.proofs.lemmas.List.{length-drop, length-reverse, reverse-append, take-append-drop, take_at}
use Rattle.std.proofs.lemmas.List.Folds.{list_any-append}
use Rattle.std.specs.List.{flat_map, list_all, list_any, prefix_len, take_while}
use Rattle.cat_names.specs.declared.hash.Hash.{Hash}
use Rattle.cat_model.specs.declared.commit.Commit.{Commit}
use Rattle.cat_model.specs.declared.cutoff.Cutoff.{Cutoff}
use Rattle.cat_model.specs.declared.cutoff.Cutoff.TheVariants as cutoffs
use Rattle.cat_model.specs.declared.cutoff.Resolved.{Resolved}
use Rattle.cat_model.specs.declared.reference.Reference.{Reference}
use Rattle.cat_model.specs.declared.sweep.Sweep.{Sweep}
use Rattle.cat_model.specs.Base.{is_among}
use Rattle.cat_model.specs.Chain.{Commits, chain}
use Rattle.cat_model.specs.Cutoffs.{cutoff_for, is_older, kept, kept_after, live, live_from, visible}
use Rattle.cat_model.specs.Later.{Adds}
use Rattle.cat_model.specs.Same.{same_hash}
use Rattle.cat_model.specs.State.{State}
use Rattle.cat_model.specs.Sweeps.{kept_by_names, live_since, names_in, saved, since}
use Rattle.cat_graph.specs.GraphLaws.{same_self}
use Rattle.cat_graph.specs.Linked.{AreLinked, is_known}
use Rattle.cat_tables.specs.References.{heads_pass}
use Rattle.cat_tables.specs.ReferenceLaws.{and_true, both_true}
use Rattle.cat_decisions.specs.AddedLaws.{chain_later, entries_later, known_later}
use Rattle.cat_core.specs.Sweeping.{AreTaken, live_at, live_if, live_taken, rooted, taken_passes}

-- ---- lists

pub any_of_lists : {A : Type 0} (f : A → List Hash) (xs : List A) (hash : Hash) → is_among (flat_map f xs) hash ≡ list_any (λ x. is_among (f x) hash) xs
any_of_lists f [] hash = refl
any_of_lists f (x ∷ xs) hash = list_any-append (λ other. same_hash other hash) (f x) (flat_map f xs) ∙ ap (λ (b : Bool). is_among (f x) hash || b) (any_of_lists f xs hash)

pub among_both : (xs ys : List Hash) (hash : Hash) → is_among (xs ++ ys) hash ≡ (is_among xs hash || is_among ys hash)
among_both xs ys hash = list_any-append (λ other. same_hash other hash) xs ys

any_same : {A : Type 0} (p : A → Bool) (f g : A → Bool) (xs : List A) → ((x : A) → p x ≡ true → f x ≡ g x) → list_all p xs ≡ true → list_any f xs ≡ list_any g xs
any_same p f g [] same all = refl
any_same p f g (x ∷ xs) same all =
    let both = and_true (p x) (list_all p xs) all in
    (λ i. same x both.0 i || any_same p f g xs same both.1 i)

or_turned : (a b : Bool) → (a || b) ≡ (b || a)
or_turned true true = refl
or_turned true false = refl
or_turned false true = refl
or_turned false false = refl

or_none : (a : Bool) → (a || false) ≡ a
or_none true = refl
or_none false = refl

or_assoc : (a b c : Bool) → ((a || b) || c) ≡ (a || (b || c))
or_assoc true b c = refl
or_assoc false b c = refl

any_back : {A : Type 0} (f : A → Bool) (xs : List A) → list_any f (reverse xs) ≡ list_any f xs
any_back f [] = refl
any_back f (x ∷ xs) =
    ap (list_any f) (reverse_onto xs x []) ∙ list_any-append f (reverse xs) (x ∷ []) ∙ (λ i. any_back f xs i || or_none (f x) i) ∙ or_turned (list_any f xs) (f x)

-- the last ones, whichever comes first
pub any_last : {A : Type 0} (f : A → Bool) (xs : List A) (n place : ℕ) → n + place ≡ length xs → list_any f (take n (reverse xs)) ≡ list_any f (drop place xs)
any_last f xs n place whole =
    let parts : reverse xs ≡ reverse (drop place xs) ++ reverse (take place xs) = ap reverse (sym (take-append-drop place xs)) ∙ reverse-append (take place xs) (drop place xs) in
    let long : length (reverse (drop place xs)) ≡ n = omega (arith, length-reverse (drop place xs), length-drop place xs, whole) in
    ap (λ l. list_any f (take n l)) parts ∙ ap (list_any f) (take_at (reverse (drop place xs)) (reverse (take place xs)) n long) ∙ any_back f (drop place xs)

-- ---- the commits of a chain are known

pub weaker : {A : Type 0} (p q : A → Bool) (xs : List A) → ((x : A) → p x ≡ true → q x ≡ true) → list_all p xs ≡ true → list_all q xs ≡ true
weaker p q [] more are = refl
weaker p q (x ∷ xs) more are = let both = and_true (p x) (list_all p xs) are in both_true _ _ (more x both.0) (weaker p q xs more both.1)

itself_known : (x : Hash × Commit) (older : Commits) → is_known (x ∷ older) x.0 ≡ true
itself_known x older = rw (same_self x.0) refl

pub chain_known : (commits : Commits) (head : Hash) → list_all (λ x. is_known commits x.0) (chain commits head) ≡ true
chain_known [] head = refl
chain_known (x ∷ older) head = by (same_hash x.0 head) (above x.1.parent (chain_known older x.1.parent)) (above head (chain_known older head))
  where
    above : (hash : Hash) → list_all (λ y. is_known older y.0) (chain older hash) ≡ true → list_all (λ y. is_known (x ∷ older) y.0) (chain older hash) ≡ true
    above hash known = weaker (λ y. is_known older y.0) (λ y. is_known (x ∷ older) y.0) (chain older hash) (λ y k. known_later older (x ∷ older) y.0 (x ∷ [], refl) k) known

    by : (b : Bool) → list_all (λ y. is_known (x ∷ older) y.0) (chain older x.1.parent) ≡ true → list_all (λ y. is_known (x ∷ older) y.0) (chain older head) ≡ true
        → list_all (λ y. is_known (x ∷ older) y.0) (if b then x ∷ chain older x.1.parent else chain older head) ≡ true
    by true p q = both_true _ _ (itself_known x older) p
    by false p q = q

all_taken : {A : Type 0} (p : A → Bool) (n : ℕ) (xs : List A) → list_all p xs ≡ true → list_all p (take n xs) ≡ true
all_taken p zero xs are = refl
all_taken p (suc n) [] are = refl
all_taken p (suc n) (x ∷ xs) are = let both = and_true (p x) (list_all p xs) are in both_true _ _ both.0 (all_taken p n xs both.1)

all_while : {A : Type 0} (p q : A → Bool) (xs : List A) → list_all p xs ≡ true → list_all p (take_while q xs) ≡ true
all_while p q xs are = all_taken p (prefix_len q xs) xs are

all_after : (p : Hash × Commit → Bool) (cutoff : Cutoff) (rest : Commits) → list_all p rest ≡ true → list_all p (kept_after cutoff rest) ≡ true
all_after p cutoffs.All rest are = are
all_after p (cutoffs.Commits count) rest are = all_taken p (count - 1) rest are
all_after p (cutoffs.Since moment) rest are = all_while p (λ x. not (is_older moment x.1.time)) rest are

all_kept : (p : Hash × Commit → Bool) (cutoff : Cutoff) (commits : Commits) → list_all p commits ≡ true → list_all p (kept cutoff commits) ≡ true
all_kept p cutoff [] are = refl
all_kept p cutoff (head ∷ rest) are = let both = and_true (p head) (list_all p rest) are in both_true _ _ both.0 (all_after p cutoff rest both.1)

-- ---- what is live from a known head

pub same_lists : {A B : Type 0} (p : A → Bool) (f g : A → List B) (xs : List A) → ((x : A) → p x ≡ true → f x ≡ g x) → list_all p xs ≡ true → flat_map f xs ≡ flat_map g xs
same_lists p f g [] same all = refl
same_lists p f g (x ∷ xs) same all =
    let both = and_true (p x) (list_all p xs) all in
    (λ i. same x both.0 i ++ same_lists p f g xs same both.1 i)

-- it stays, whatever commits are added
pub live_later : (older newer : Commits) (cutoff : Cutoff) (head : Hash) → AreLinked newer → Adds older newer → is_known older head ≡ true → live_from newer cutoff head ≡ live_from older cutoff head
unfolding live_from
live_later older newer cutoff head are adds known =
    ap (λ (l : Commits). flat_map (λ (x : Hash × Commit). visible newer x.0) (kept cutoff l)) (chain_later older newer head are adds known)
    ∙ same_lists (λ (x : Hash × Commit). is_known older x.0) (λ (x : Hash × Commit). visible newer x.0) (λ (x : Hash × Commit). visible older x.0) (kept cutoff (chain older head))
    (λ x k. ap (map (λ y. y.1.hash)) (entries_later older newer x.0 are adds k)) (all_kept (λ x. is_known older x.0) cutoff (chain older head) (chain_known older head))

-- ---- what is live at one of the states

pub adds_on : {A : Type 0} (a b c : List A) → Adds a b → Adds b c → Adds a c
adds_on {A} a b c p q = (q.0 ++ p.0, q.1 ∙ ap (λ (l : List A). q.0 ++ l) p.1 ∙ sym (append_assoc q.0 p.0 a))

same_or : (x b t rest : Bool) → (b ≡ true → (x || t) ≡ true) → (t ≡ true → b ≡ true) → (x || (b || rest)) ≡ (x || (t || rest))
same_or true b t rest f g = refl
same_or false true true rest f g = refl
same_or false true false rest f g = absurd (let no : false ≡ true = f refl in cc)
same_or false false true rest f g = absurd (let no : false ≡ true = g refl in cc)
same_or false false false rest f g = refl

module _ (now : Commits) (are : AreLinked now) (policy : Resolved) (hash : Hash) where
  -- it is live from the reference now
  abbrev pub is_live : Reference → Bool
  is_live r = is_among (live_at now policy r) hash

  pub live_then : (s : State) → Adds s.commits now → heads_pass (is_known s.commits) s.references ≡ true → is_among (live s policy) hash ≡ list_any is_live s.references
  unfolding live
  live_then s adds heads =
      any_of_lists (λ r. live_from s.commits (cutoff_for policy r.name) r.head) s.references hash
      ∙ any_same (λ r. is_known s.commits r.head) (λ r. is_among (live_from s.commits (cutoff_for policy r.name) r.head) hash) is_live s.references
      (λ r known. ap (λ (l : List Hash). is_among l hash) (sym (live_later s.commits now (cutoff_for policy r.name) r.head are adds known))) heads

  abbrev pub is_live_then : State → Bool
  is_live_then s = is_among (live s policy) hash

  live_back : (s : State) (past : List State) (taken : List (Option Reference)) (n : ℕ) → Adds s.commits now → heads_pass (is_known s.commits) s.references ≡ true → AreTaken s past taken
      → list_any is_live_then (s ∷ take n past) ≡ (list_any is_live s.references || list_any (taken_passes is_live) (take n taken))
  live_back s [] (t ∷ taken) n adds heads is = absurd is
  live_back s (b ∷ past) [] n adds heads is = absurd is
  live_back s [] [] zero adds heads is = ap (λ (x : Bool). x || false) (live_then s adds heads)
  live_back s [] [] (suc n) adds heads is = ap (λ (x : Bool). x || false) (live_then s adds heads)
  live_back s (b ∷ past) (t ∷ taken) zero adds heads is = ap (λ (x : Bool). x || false) (live_then s adds heads)
  live_back s (b ∷ past) (t ∷ taken) (suc n) adds heads is =
      let one = is.0 in
      (λ i. live_then s adds heads i || live_back b past taken n (adds_on b.commits s.commits now one.later.commits adds) one.heads is.1 i)
      ∙ same_or (list_any is_live s.references) (list_any is_live b.references) (taken_passes is_live t) (list_any (taken_passes is_live) (take n taken)) (one.kept is_live) (one.there is_live)

  taken_is : (t : Option Reference) → is_among (live_if now policy t) hash ≡ taken_passes is_live t
  taken_is None = refl
  taken_is (Some r) = refl

  all_taken_are : (taken : List (Option Reference)) → is_among (live_taken now policy taken) hash ≡ list_any (taken_passes is_live) taken
  all_taken_are [] = refl
  all_taken_are (t ∷ taken) = among_both (live_if now policy t) (live_taken now policy taken) hash ∙ (λ i. taken_is t i || all_taken_are taken i)

  pub since_is : (states : List State) → is_among (live_since states policy) hash ≡ list_any is_live_then states
  unfolding live_since
  since_is states = any_of_lists (λ s. live s policy) states hash

-- what a sweep keeps that was opened at a place of the log, by what the entries took
pub saved_is : (first : ℕ) (state : State) (past : List State) (taken : List (Option Reference)) (s : Sweep) (hash : Hash) → AreLinked state.commits → heads_pass (is_known state.commits) state.references ≡ true
    → first + length taken ≡ state.place → first ≤ s.opened → s.opened ≤ state.place → AreTaken state past (reverse taken)
    → is_among (saved (since s.opened state past) state.commits s.policy (names_in s)) hash ≡ is_among (rooted first state taken s) hash
unfolding saved
saved_is first state past taken s hash are heads count since_first opened is =
    let commits = state.commits in
    let names = kept_by_names commits (names_in s) in
    let n = state.place - s.opened in
    let m = s.opened - first in
    let since_opened = live_taken commits s.policy (drop m taken) in
    let last : list_any (taken_passes (is_live commits are s.policy hash)) (take n (reverse taken)) ≡ list_any (taken_passes (is_live commits are s.policy hash)) (drop m taken) =
    any_last (taken_passes (is_live commits are s.policy hash)) taken n m (omega (arith, count, since_first, opened)) in
    among_both (live_since (since s.opened state past) s.policy) names hash
    ∙ ap (λ (b : Bool). b || is_among names hash)
    (since_is commits are s.policy hash (since s.opened state past)
    ∙ live_back commits are s.policy hash state past (reverse taken) n ([], refl) heads is
    ∙ sym (λ i. live_then commits are s.policy hash state ([], refl) heads i || (all_taken_are commits are s.policy hash (drop m taken) ∙ sym last) i))
    ∙ or_assoc (is_among (live state s.policy) hash) (is_among since_opened hash) (is_among names hash)
    ∙ ap (λ (b : Bool). is_among (live state s.policy) hash || b) (sym (among_both since_opened names hash))
    ∙ sym (among_both (live state s.policy) (since_opened ++ names) hash)
