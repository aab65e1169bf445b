-- Roots that say all that a sweep has to keep.
use Rattle.std.proofs.Common.{◌≡◌, ℕ, zero, ◌+◌, ◌-◌, ◌≤◌, List, [], ◌∷◌, ◌++◌, length, take, drop, reverse, map, Bool, true, false, ◌||◌, refl, sym, ap, ◌∙◌, subst, arith}
use Rattle.std.proofs.lemmas.List.{length-reverse, reverse-reverse, take-append-drop}
use Rattle.std.specs.List.{flat_map, list_all, list_any}
use Rattle.sha2.specs.Sha256.{sha256}
use Rattle.cat_graph.specs.Linked.{AreLinked}
use Rattle.cat_mark.specs.Marks.{live_of}
use Rattle.cat_model.specs.declared.commit.Commit.{Commit}
use Rattle.cat_model.specs.declared.cutoff.Cutoff.{Cutoff}
use Rattle.cat_model.specs.declared.cutoff.Cutoff.TheVariants as cutoffs
use Rattle.cat_model.specs.declared.cutoff.Resolved.{Resolved}
use Rattle.cat_model.specs.declared.log_entry.LogEntry.{LogEntry}
use Rattle.cat_model.specs.Base.{is_among}
use Rattle.cat_model.specs.Book.{Book}
use Rattle.cat_model.specs.Chain.{Commits, chain, entries, map_of}
use Rattle.cat_model.specs.Cutoffs.{kept, live, live_from, visible}
use Rattle.cat_model.specs.Drafts.{Names, OpenSweep}
use Rattle.cat_model.specs.Past.{course, past_of}
use Rattle.cat_model.specs.State.{State}
use Rattle.cat_model.specs.Sweeps.{kept_by_names, live_since, saved, since}
use Rattle.cat_model.specs.Turns.{Opened}
use Rattle.cat_names.specs.declared.hash.Hash.{Hash}
use Rattle.cat_core.specs.Noting.{and_names}
use Rattle.cat_core.specs.Stored.{is_headed}
use Rattle.cat_core.specs.Sweeps.{Completes, alone, first_roots, given_by, head_at, head_made, if_head, kept_by, roots_since}
use Rattle.cat_core.proofs.Looking.{among_both, any_last, any_of_lists, is_live_then, since_is}
use Rattle.cat_core.proofs.Since.{AreLegalBack, left_by, made_is, more_live, past_at, state_at}
use Rattle.cat_core.proofs.Spared.{chain_first}

-- ---- commits alone

shown_by : (commits : Commits) (hash : Hash) (some : Commits) → ((x : Hash × Commit) (rest : Commits) → some ≡ x ∷ rest → x.0 ≡ hash) → chain commits hash ≡ some → (other : Hash)
    → is_among (flat_map (λ x. visible commits x.0) (kept (cutoffs.Commits 1) some)) other ≡ is_among (map (λ x. x.1.hash) (map_of some)) other
unfolding entries
shown_by commits hash [] first is other = refl
shown_by commits hash (x ∷ rest) first is other =
    among_both (visible commits x.0) [] other ∙ or_none (is_among (visible commits x.0) other)
    ∙ ap (λ (h : Hash). is_among (visible commits h) other) (first x rest refl)
    ∙ shows other
  where
    or_none : (a : Bool) → (a || false) ≡ a
    or_none true = refl
    or_none false = refl

    shows : (other : Hash) → is_among (visible commits hash) other ≡ is_among (map (λ x. x.1.hash) (map_of (x ∷ rest))) other
    shows other = ap (λ (l : Commits). is_among (map (λ x. x.1.hash) (map_of l)) other) is

-- what is live from a commit alone is what is visible at it
pub alone_shows : (commits : Commits) (hash other : Hash) → is_among (live_from commits (cutoffs.Commits 1) hash) other ≡ is_among (visible commits hash) other
unfolding live_from entries
alone_shows commits hash other = shown_by commits hash (chain commits hash) (chain_first commits hash) refl other

all_alone : (commits : Commits) (hashes : List Hash) (hash : Hash) → is_among (flat_map (λ head. live_from commits head.1 head.0) (map alone hashes)) hash ≡ is_among (flat_map (visible commits) hashes) hash
all_alone commits [] hash = refl
all_alone commits (x ∷ hashes) hash =
    among_both (live_from commits (cutoffs.Commits 1) x) (flat_map (λ head. live_from commits head.1 head.0) (map alone hashes)) hash
    ∙ (λ i. alone_shows commits x hash i || all_alone commits hashes hash i)
    ∙ sym (among_both (visible commits x) (flat_map (visible commits) hashes) hash)

-- ---- lists of lists

pub lists_both : {A B : Type 0} (f : A → List B) (xs ys : List A) → flat_map f (xs ++ ys) ≡ flat_map f xs ++ flat_map f ys
lists_both f [] ys = refl
lists_both f (x ∷ xs) ys = ap (λ l. f x ++ l) (lists_both f xs ys) ∙ assoc (f x) (flat_map f xs) (flat_map f ys)
  where
    assoc : {C : Type 0} (xs ys zs : List C) → xs ++ (ys ++ zs) ≡ (xs ++ ys) ++ zs
    assoc [] ys zs = refl
    assoc (x ∷ xs) ys zs = ap (λ l. x ∷ l) (assoc xs ys zs)

pub lists_map : {A B C : Type 0} (f : B → List C) (g : A → B) (xs : List A) → flat_map f (map g xs) ≡ flat_map (λ x. f (g x)) xs
lists_map f g [] = refl
lists_map f g (x ∷ xs) = ap (λ l. f (g x) ++ l) (lists_map f g xs)

lists_lists : {A B C : Type 0} (f : B → List C) (g : A → List B) (xs : List A) → flat_map f (flat_map g xs) ≡ flat_map (λ x. flat_map f (g x)) xs
lists_lists f g [] = refl
lists_lists f g (x ∷ xs) = lists_both f (g x) (flat_map g xs) ∙ ap (λ l. flat_map f (g x) ++ l) (lists_lists f g xs)

-- ---- names

or_four : (a b c d : Bool) → ((a || b) || (c || d)) ≡ ((a || c) || (b || d))
or_four true b c d = refl
or_four false true true d = refl
or_four false true false d = refl
or_four false false c d = refl

pub or_assoc : (a b c : Bool) → ((a || b) || c) ≡ (a || (b || c))
or_assoc true b c = refl
or_assoc false b c = refl

-- what names keep that stand behind others
names_both : (commits : Commits) (a b : Names) (hash : Hash) → is_among (kept_by_names commits (and_names a b)) hash ≡ (is_among (kept_by_names commits a) hash || is_among (kept_by_names commits b) hash)
names_both commits a b hash =
    among_both (flat_map (visible commits) (a.commits ++ b.commits)) (a.contents ++ b.contents) hash
    ∙ (λ i. (ap (λ l. is_among l hash) (lists_both (visible commits) a.commits b.commits) ∙ among_both (flat_map (visible commits) a.commits) (flat_map (visible commits) b.commits) hash) i || among_both a.contents b.contents hash i)
    ∙ or_four (is_among (flat_map (visible commits) a.commits) hash) (is_among (flat_map (visible commits) b.commits) hash) (is_among a.contents hash) (is_among b.contents hash)
    ∙ (λ i. sym (among_both (flat_map (visible commits) a.commits) a.contents hash) i || sym (among_both (flat_map (visible commits) b.commits) b.contents hash) i)

-- what roots keep: what is live from heads, and what names keep
pub roots_both : (commits : Commits) (heads : List (Hash × Cutoff)) (names : Names) (hash : Hash) → is_among (live_of commits (record { heads = heads ++ map alone names.commits; hashes = names.contents })) hash
    ≡ (is_among (flat_map (λ head. live_from commits head.1 head.0) heads) hash || is_among (kept_by_names commits names) hash)
roots_both commits heads names hash =
    among_both (flat_map (λ head. live_from commits head.1 head.0) (heads ++ map alone names.commits)) names.contents hash
    ∙ ap (λ (b : Bool). b || is_among names.contents hash)
    (ap (λ l. is_among l hash) (lists_both (λ head. live_from commits head.1 head.0) heads (map alone names.commits))
    ∙ among_both (flat_map (λ head. live_from commits head.1 head.0) heads) (flat_map (λ head. live_from commits head.1 head.0) (map alone names.commits)) hash
    ∙ ap (λ (b : Bool). is_among (flat_map (λ head. live_from commits head.1 head.0) heads) hash || b) (all_alone commits names.commits hash))
    ∙ or_assoc (is_among (flat_map (λ head. live_from commits head.1 head.0) heads) hash) (is_among (flat_map (visible commits) names.commits) hash) (is_among names.contents hash)
    ∙ ap (λ (b : Bool). is_among (flat_map (λ head. live_from commits head.1 head.0) heads) hash || b) (sym (among_both (flat_map (visible commits) names.commits) names.contents hash))

-- ---- as it is opened

none_since : (state : State) (past : List State) → since state.place state past ≡ state ∷ []
none_since state past = let n : state.place - state.place ≡ zero = omega arith in ap (λ (n : ℕ). state ∷ take n past) n

-- its first roots
pub completes_first : (state : State) (past : List State) (policy : Resolved) (names : Names) → Completes state.commits [] (first_roots policy state.references names) (saved (since state.place state past) state.commits policy names)
unfolding saved live_since live
completes_first state past policy names hash =
    ap (λ (l : List State). is_among (flat_map (λ s. live s policy) l ++ kept_by_names state.commits names) hash) (none_since state past)
    ∙ among_both (flat_map (λ s. live s policy) (state ∷ [])) (kept_by_names state.commits names) hash
    ∙ ap (λ (b : Bool). b || is_among (kept_by_names state.commits names) hash)
    (among_both (live state policy) [] hash ∙ or_none (is_among (live state policy) hash)
    ∙ ap (λ l. is_among l hash) (sym (lists_map (λ head. live_from state.commits head.1 head.0) (head_at policy) state.references)))
    ∙ sym (roots_both state.commits (map (head_at policy) state.references) names hash)
  where
    or_none : (a : Bool) → (a || false) ≡ a
    or_none true = refl
    or_none false = refl

-- ---- as it goes on

given_front : (commits : Commits) (names given rest : Names) (live given_live made : Bool) (hash : Hash) → names ≡ and_names given rest → live ≡ (given_live || made)
    → (live || is_among (kept_by_names commits names) hash) ≡ ((given_live || is_among (kept_by_names commits given) hash) || (made || is_among (kept_by_names commits rest) hash))
given_front commits names given rest live given_live made hash is more =
    (λ i. more i || (ap (λ (n : Names). is_among (kept_by_names commits n) hash) is ∙ names_both commits given rest hash) i)
    ∙ or_four given_live made (is_among (kept_by_names commits given) hash) (is_among (kept_by_names commits rest) hash)

module _ (o : Opened) (book : Book) (s : OpenSweep) (rest : Names) (are : AreLinked book.state.commits) (base : book.base ≡ o.state) (ends : (course sha256 book.base book.log).state ≡ book.state) (legal : AreLegalBack o book.log)
    (names : s.names ≡ and_names s.given rest) (drained : s.drained ≤ length book.log) (low : s.opening.place ≤ (state_at o (drop (length book.log - s.drained) book.log)).place) (headed : list_all is_headed (since s.opening.place book.state (past_of sha256 book)) ≡ true) where
  abbrev n : ℕ
  n = length book.log - s.drained

  abbrev older : List LogEntry
  older = drop n book.log

  abbrev new : List LogEntry
  new = take n book.log

  parts : new ++ older ≡ book.log
  parts = take-append-drop n book.log

  there : state_at o book.log ≡ book.state
  there = ap (λ (base : State). (course sha256 base book.log).state) (sym base) ∙ ends

  pasts : past_at o book.log ≡ past_of sha256 book
  unfolding past_of
  pasts = ap (λ (base : State). (course sha256 base book.log).past) (sym base)

  one_since : since s.opening.place (state_at o (new ++ older)) (past_at o (new ++ older)) ≡ since s.opening.place book.state (past_of sha256 book)
  one_since =
      ap (λ (l : List LogEntry). since s.opening.place (state_at o l) (past_at o l)) parts
      ∙ ap (λ (state : State). since s.opening.place state (past_at o book.log)) there
      ∙ ap (λ (past : List State). since s.opening.place book.state past) pasts

  module _ (hash : Hash) where
    abbrev commits : Commits
    commits = book.state.commits

    more : list_any (is_live_then commits are s.policy hash) (since s.opening.place book.state (past_of sha256 book))
        ≡ (list_any (is_live_then commits are s.policy hash) (since s.opening.place (state_at o older) (past_at o older)) || list_any (left_by commits are s.policy hash) new)
    more =
        let all : state_at o (new ++ older) ≡ book.state = ap (state_at o) parts ∙ there in
        ap (list_any (is_live_then commits are s.policy hash)) (sym one_since)
        ∙ (more_live commits are s.policy hash o s.opening.place new older (subst (AreLegalBack o) (sym parts) legal) low
        (subst (λ (state : State). (front : Commits) × (commits ≡ front ++ state.commits)) (sym all) ([], refl))
        (ap (list_all is_headed) one_since ∙ headed)).0

    -- the oldest entry first
    made_live : list_any (left_by commits are s.policy hash) new ≡ is_among (flat_map (λ head. live_from commits head.1 head.0) (flat_map (λ e. if_head (head_made s.policy e)) (drop s.drained (reverse book.log)))) hash
    made_live =
        let whole : n + s.drained ≡ length (reverse book.log) = (let long = length_back book.log in omega (arith, long, drained)) in
        ap (λ (l : List LogEntry). list_any (left_by commits are s.policy hash) (take n l)) (sym (reverse-reverse book.log))
        ∙ any_last (left_by commits are s.policy hash) (reverse book.log) n s.drained whole
        ∙ sym (ap (λ l. is_among l hash) (lists_lists (λ head. live_from commits head.1 head.0) (λ e. if_head (head_made s.policy e)) (drop s.drained (reverse book.log)))
        ∙ any_of_lists (λ e. flat_map (λ head. live_from commits head.1 head.0) (if_head (head_made s.policy e))) (drop s.drained (reverse book.log)) hash
        ∙ each (drop s.drained (reverse book.log)))
      where
        length_back : (l : List LogEntry) → length (reverse l) ≡ length l
        length_back l = length-reverse l

        each : (l : List LogEntry) → list_any (λ e. is_among (flat_map (λ head. live_from commits head.1 head.0) (if_head (head_made s.policy e))) hash) l ≡ list_any (left_by commits are s.policy hash) l
        each [] = refl
        each (e ∷ l) = (λ i. made_is commits are s.policy hash e i || each l i)

    saved_by : (states : List State) (names : Names) → is_among (saved states commits s.policy names) hash ≡ (list_any (is_live_then commits are s.policy hash) states || is_among (kept_by_names commits names) hash)
    unfolding saved
    saved_by states names = among_both (live_since states s.policy) (kept_by_names commits names) hash ∙ ap (λ (b : Bool). b || is_among (kept_by_names commits names) hash) (since_is commits are s.policy hash states)

    given_is : is_among (given_by book s) hash ≡ (list_any (is_live_then commits are s.policy hash) (since s.opening.place (state_at o older) (past_at o older)) || is_among (kept_by_names commits s.given) hash)
    given_is =
        ap (λ (base : State). is_among (saved (since s.opening.place (course sha256 base older).state (course sha256 base older).past) commits s.policy s.given) hash) base
        ∙ saved_by (since s.opening.place (state_at o older) (past_at o older)) s.given

  -- what was given, and the roots of what entries made and drafts named behind it
  pub completes_rest : Completes book.state.commits (given_by book s) (roots_since s.policy (drop s.drained (reverse book.log)) rest) (kept_by book s)
  completes_rest hash =
      let c = book.state.commits in
      saved_by hash (since s.opening.place book.state (past_of sha256 book)) s.names
      ∙ given_front c s.names s.given rest _ _ _ hash names (more hash ∙ ap (λ (b : Bool). list_any (is_live_then c are s.policy hash) (since s.opening.place (state_at o older) (past_at o older)) || b) (made_live hash))
      ∙ (λ i. sym (given_is hash) i || sym (roots_both c (flat_map (λ e. if_head (head_made s.policy e)) (drop s.drained (reverse book.log))) rest hash) i)
