-- What is live along a chain: what the map at the oldest kept commit has, and what each commit above it has at the keys that it changes.
use Rattle.std.proofs.Common.{◌≡◌, ℕ, ◌+◌, ◌≤◌, suc, List, [], ◌∷◌, ◌++◌, Option, Some, None, Bool, true, false, cond, length, refl, sym, ap, subst, ◌∙◌, arith}
use Rattle.std.proofs.lemmas.Bool.{cond-true, cond-false, or_left}
use Rattle.std.proofs.lemmas.List.{append-nil}
use Rattle.std.proofs.lemmas.List.Concat.{flat_map_single}
use Rattle.std.proofs.lemmas.Option.{none-some, same_Some}
use Rattle.cat_codes.specs.Code.{ascends}
use Rattle.cat_names.specs.Fields.{Key, key_cmp}
use Rattle.cat_names.specs.declared.hash.Hash.{Hash}
use Rattle.cat_model.specs.declared.commit.Commit.{Commit}
use Rattle.cat_model.specs.declared.cutoff.Cutoff.{Cutoff}
use Rattle.cat_model.specs.declared.entry.Entry.{Entry}
use Rattle.cat_model.specs.Base.{is_among}
use Rattle.cat_model.specs.Chain.{Commits, commit_of, chain, map_of, entries}
use Rattle.cat_model.specs.Cutoffs.{keeps, kept, kept_from, visible, live_from}
use Rattle.cat_model.specs.Maps.{Map, Change, IsMap, after_changes}
use Rattle.cat_model.specs.Same.{same_hash}
use Rattle.cat_keymap.specs.MapLaws.{IsMap-after_changes}
use Rattle.cat_graph.specs.Linked.{AreLinked}
use Rattle.cat_graph.proofs.Walks.{chain_step, chain_end}
use Rattle.cat_keymap.specs.MapsAt.{map_at}
use Rattle.cat_mark.specs.Marks.{at_keys, found_map, hashes, if_kept}
use Rattle.cat_mark.specs.Walked.{shown_at, live_on}
use Rattle.cat_mark.proofs.Marking.{IsParted, both}
use Rattle.cat_mark.proofs.Visible.{shown_at_keys}

visible_is : (commits : Commits) (hash : Hash) → visible commits hash ≡ hashes (entries commits hash)
visible_is commits hash = sym (flat_map_single (λ (x : Key × Entry). x.1.hash) (entries commits hash))

-- ---- maps along a chain

are_maps : (commits : Commits) → IsMap (map_of commits)
are_maps [] = refl
are_maps (x ∷ older) = IsMap-after_changes x.1.ops (map_of older) (are_maps older)

pub entries_step : (commits : Commits) (at : Hash) (c : Commit) → AreLinked commits → commit_of commits at ≡ Some c → entries commits at ≡ after_changes c.ops (entries commits c.parent)
unfolding entries
entries_step commits at c are e = ap map_of (chain_step commits at c are e)

pub are_entries : (commits : Commits) (hash : Hash) → IsMap (entries commits hash)
unfolding entries
are_entries commits hash = are_maps (chain commits hash)

-- a map without keys has nothing at any
no_keys : (changes : List Change) → at_keys [] changes ≡ []
no_keys [] = refl
no_keys (c ∷ cs) = no_keys cs

-- nor has one that isn't there
pub nothing_there : (maps : List (Hash × Map)) (hash : Hash) (changes : List Change) → map_at maps hash ≡ None → at_keys (found_map (map_at maps hash)) changes ≡ []
nothing_there maps hash changes none = rw none (no_keys changes)

-- ---- commits that are kept

kept_on : (commits : Commits) (cutoff : Cutoff) (index : ℕ) (at : Hash) (c : Commit) → AreLinked commits → commit_of commits at ≡ Some c → keeps cutoff index c.time ≡ true
    → kept_from cutoff index (chain commits at) ≡ (at, c) ∷ kept_from cutoff (index + 1) (chain commits c.parent)
kept_on commits cutoff index at c are e keep =
    ap (λ (l : Commits). kept_from cutoff index l) (chain_step commits at c are e)
    ∙ cond-true (keeps cutoff index c.time) ((at, c) ∷ kept_from cutoff (index + 1) (chain commits c.parent)) [] keep

not_kept : (cutoff : Cutoff) (index : ℕ) (c : Commit) → (if_kept cutoff index (Some c)) ≡ None → keeps cutoff index c.time ≡ false
not_kept cutoff index c e = by (keeps cutoff index c.time) e
  where
    by : (b : Bool) → cond b (Some c) None ≡ None → b ≡ false
    by true f = absurd (none-some c (sym f))
    by false f = refl

kept_ends : (commits : Commits) (cutoff : Cutoff) (index : ℕ) (at : Hash) (found : Option Commit) → AreLinked commits → commit_of commits at ≡ found → if_kept cutoff index found ≡ None → kept_from cutoff index (chain commits at) ≡ []
kept_ends commits cutoff index at None are e none = ap (λ (l : Commits). kept_from cutoff index l) (chain_end commits at e)
kept_ends commits cutoff index at (Some c) are e none =
    ap (λ (l : Commits). kept_from cutoff index l) (chain_step commits at c are e)
    ∙ cond-false (keeps cutoff index c.time) ((at, c) ∷ kept_from cutoff (index + 1) (chain commits c.parent)) [] (not_kept cutoff index c none)

-- the commit that is kept, and its test
pub record IsKept (cutoff : Cutoff) (index : ℕ) (found : Option Commit) (c : Commit) : Type 0 where
  pub there : found ≡ Some c
  pub passes : keeps cutoff index c.time ≡ true

pub is_kept : (cutoff : Cutoff) (index : ℕ) (found : Option Commit) (c : Commit) → if_kept cutoff index found ≡ Some c → IsKept cutoff index found c
is_kept cutoff index None c e = absurd (none-some c e)
is_kept cutoff index (Some d) c e = by (keeps cutoff index d.time) refl e
  where
    by : (b : Bool) → keeps cutoff index d.time ≡ b → cond b (Some d) None ≡ Some c → IsKept cutoff index (Some d) c
    by true k f = record { there = f; passes = subst (λ (x : Commit). keeps cutoff index x.time ≡ true) (same_Some d c f) k }
    by false k f = absurd (none-some c f)

-- ---- what is live

-- from a head: what is live from its commit's index on
pub live_is : (commits : Commits) (cutoff : Cutoff) (head : Hash) → ((some : Commits) → kept cutoff some ≡ kept_from cutoff 0 some) → live_from commits cutoff head ≡ live_on commits cutoff 0 head
unfolding live_from
live_is commits cutoff head kept_is = ap (λ (l : Commits). shown_at commits l) (kept_is (chain commits head))

-- nothing, from a hash that is no commit's
pub live_none : (commits : Commits) (cutoff : Cutoff) (head : Hash) → commit_of commits head ≡ None → live_from commits cutoff head ≡ []
unfolding live_from
live_none commits cutoff head e = ap (λ (l : Commits). shown_at commits (kept cutoff l)) (chain_end commits head e)

-- a kept commit shows its map, and then what is live from its parent on
pub kept_shows : (commits : Commits) (cutoff : Cutoff) (index : ℕ) (at : Hash) (c : Commit) → AreLinked commits → commit_of commits at ≡ Some c → keeps cutoff index c.time ≡ true
    → live_on commits cutoff index at ≡ hashes (entries commits at) ++ live_on commits cutoff (index + 1) c.parent
kept_shows commits cutoff index at c are e keep =
    ap (λ (l : Commits). shown_at commits l) (kept_on commits cutoff index at c are e keep)
    ∙ ap (λ (l : List Hash). l ++ live_on commits cutoff (index + 1) c.parent) (visible_is commits at)

shows_first : (left first rest : List Hash) (x : Hash) → left ≡ first ++ rest → is_among first x ≡ true → is_among left x ≡ true
shows_first left first rest x is e = ap (λ (l : List Hash). is_among l x) is ∙ both first rest x ∙ or_left (is_among first x) (is_among rest x) e

-- of two kept commits in a row the newer one adds what its map has at the keys that it changes
pub live_step : (commits : Commits) (cutoff : Cutoff) (index : ℕ) (at : Hash) (c p : Commit) → AreLinked commits → ascends key_cmp None c.ops ≡ true → commit_of commits at ≡ Some c
    → keeps cutoff index c.time ≡ true → IsKept cutoff (index + 1) (commit_of commits c.parent) p
    → IsParted (live_on commits cutoff index at) (at_keys (entries commits at) c.ops) (live_on commits cutoff (index + 1) c.parent)
live_step commits cutoff index at c p are asc e keep next x =
    let rest = live_on commits cutoff (index + 1) c.parent in
    let older = entries commits c.parent in
    let right = kept_shows commits cutoff (index + 1) c.parent p are next.there next.passes in
    ap (λ (l : List Hash). is_among l x) (kept_shows commits cutoff index at c are e keep) ∙ both (hashes (entries commits at)) rest x
    ∙ shown_at_keys c.ops older (entries commits at) rest x asc (are_entries commits c.parent) (entries_step commits at c are e) (shows_first rest (hashes older) _ x right)

-- the last kept commit shows its map
pub live_last : (commits : Commits) (cutoff : Cutoff) (index : ℕ) (at : Hash) (c : Commit) → AreLinked commits → commit_of commits at ≡ Some c → keeps cutoff index c.time ≡ true
    → if_kept cutoff (index + 1) (commit_of commits c.parent) ≡ None → live_on commits cutoff index at ≡ hashes (entries commits at)
live_last commits cutoff index at c are e keep none =
    kept_shows commits cutoff index at c are e keep
    ∙ ap (λ (l : Commits). hashes (entries commits at) ++ shown_at commits l) (kept_ends commits cutoff (index + 1) c.parent (commit_of commits c.parent) are refl none)
    ∙ append-nil (hashes (entries commits at))

-- ---- lengths

-- no chain has more commits than there are
pub chain_bound : (commits : Commits) (hash : Hash) → length (chain commits hash) ≤ length commits
chain_bound [] hash = omega arith
chain_bound (x ∷ older) hash = by (same_hash x.0 hash) (chain_bound older x.1.parent) (chain_bound older hash)
  where
    by : (b : Bool) → length (chain older x.1.parent) ≤ length older → length (chain older hash) ≤ length older → length (cond b (x ∷ chain older x.1.parent) (chain older hash)) ≤ length (x ∷ older)
    by true g h = omega (arith, g)
    by false g h = omega (arith, h)

-- the index of a commit's parent
pub index_step : (commits : Commits) (at : Hash) (c : Commit) (index most : ℕ) → AreLinked commits → commit_of commits at ≡ Some c → index + length (chain commits at) ≤ most → index + 1 + length (chain commits c.parent) ≤ most
index_step commits at c index most are e le =
    let longer : length (chain commits at) ≡ suc (length (chain commits c.parent)) = rw (chain_step commits at c are e) refl in
    omega (arith, longer, le)
