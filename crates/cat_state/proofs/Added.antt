-- Adding a content or a commit that is new, or that is there already.
use Rattle.std.proofs.Common.{◌≡◌, ℕ, ◌+◌, ◌<◌, List, [], ◌∷◌, ◌++◌, Option, Some, None, Result, Ok, Bool, true, false, is_some, is_none, not, length, drop, get_or, refl, sym, ap, subst, ◌∙◌, arith}
use Rattle.std.specs.Option.{option_map}
use Rattle.std.proofs.lemmas.List.{drop_more}
use Rattle.sha2.specs.Sha256.{sha256}
use Rattle.cat_names.specs.declared.hash.Hash.{Hash}
use Rattle.cat_tables.specs.LookUps.{value_is_found}
use Rattle.cat_tables.specs.ReferenceLaws.{both_true}
use Rattle.cat_tables.specs.Tables.{Recorded, value_of}
use Rattle.cat_graph.specs.GraphLaws.{entries_new, found_is_known, same_self}
use Rattle.cat_model.specs.declared.commit.Commit.{Commit}
use Rattle.cat_model.specs.declared.content.Content.{Content}
use Rattle.cat_model.specs.declared.refusal.Refusal.{Refusal}
use Rattle.cat_model.specs.Chain.{Commits, commit_of}
use Rattle.cat_model.specs.Contents.{content_code}
use Rattle.cat_model.specs.Formats.{commit_code}
use Rattle.cat_model.specs.Maps.{Map}
use Rattle.cat_model.specs.Records.{added, commit_bytes, content_bytes, with_commit, with_content, with_contents}
use Rattle.cat_model.specs.Refusing.{◌>>=◌}
use Rattle.cat_model.specs.Same.{same_hash}
use Rattle.cat_model.specs.State.{State, commit_hash, content_at, content_hash, no_ancestor}
use Rattle.cat_keymap.specs.MapsAt.{map_at}
use Rattle.cat_state.specs.declared.additions.Additions.{Additions}
use Rattle.cat_state.specs.declared.failure.Failure.{Failure}
use Rattle.cat_state.specs.Adding.{HasCommit, holding, keeping, with_both}
use Rattle.cat_state.specs.Changing.{AreBeside, AreNewTo, with_additions}
use Rattle.cat_state.specs.Giving.{GivesAs}
use Rattle.cat_state.specs.Keeping.{IsHeldAt, MayBeAdded, fits, has_contents}
use Rattle.cat_state.proofs.Heads.{known_more}
use Rattle.cat_state.proofs.Kept.{next_of, none_by}
use Rattle.cat_state.proofs.Upon.{entries_at}

-- ---- records

-- adding a commit, given its record
pub commit_adds : (s : State) (c : Commit) (hash : Hash) (bytes : List ℕ) (kept : Option (List ℕ)) → hash ≡ commit_hash sha256 c → bytes ≡ (commit_code).spell c → kept ≡ commit_bytes sha256 s hash
    → added s (keeping ((hash, c) ∷ s.commits) s) hash kept bytes ≡ with_commit sha256 s c
unfolding with_commit
commit_adds s c hash bytes kept h b e = rw (e, h, b) refl

-- adding a content, given its record
pub content_adds : (s : State) (c : Content) (hash : Hash) (bytes : List ℕ) (kept : Option (List ℕ)) → hash ≡ content_hash sha256 c → bytes ≡ (content_code).spell c → kept ≡ option_map (λ c. (content_code).spell c) (content_at s.present hash)
    → added s (holding ((hash, c) ∷ s.present) s) hash kept bytes ≡ with_content sha256 s c
unfolding with_content content_bytes
content_adds s c hash bytes kept h b e = rw (e, h, b) refl

true-false : true ≡ false → ⊥
true-false e = cc

none_mapped : {A B : Type 0} (f : A → B) (o : Option A) → None ≡ option_map f o → o ≡ None
none_mapped f None e = refl
none_mapped f (Some x) e = absurd cc

-- a content whose hash has no bytes is new
pub content_new : {V : Type 0} (items : V → List ℕ) (kept : Option V) (none : Bool) (s : State) (c : Content) (hash : Hash) → hash ≡ content_hash sha256 c → option_map items kept ≡ option_map (λ c. (content_code).spell c) (content_at s.present hash)
    → is_some kept ≡ not none → none ≡ true → with_content sha256 s c ≡ Ok (holding ((hash, c) ∷ s.present) s)
content_new items None none s c hash h e n t = sym (content_adds s c hash ((content_code).spell c) None h refl e)
content_new items (Some x) none s c hash h e n t = absurd (true-false (n ∙ ap not t))

-- nothing stands under a hash that has no bytes
pub content_absent : {V : Type 0} (items : V → List ℕ) (kept : Option V) (none : Bool) (contents : List (Hash × Content)) (hash : Hash) → option_map items kept ≡ option_map (λ c. (content_code).spell c) (content_at contents hash)
    → is_some kept ≡ not none → none ≡ true → value_of contents hash ≡ None
content_absent items None none contents hash e n t = value_is_found contents hash ∙ none_mapped (λ (c : Content). (content_code).spell c) (content_at contents hash) e
content_absent items (Some x) none contents hash e n t = absurd (true-false (n ∙ ap not t))

-- ---- what is added

-- one content more under a hash that is not there
pub content_more : (state : State) (old : Additions) (contents : Recorded Content) (hash : Hash) (c : Content) → AreNewTo state old → value_of (old.contents.list ++ state.present) hash ≡ None → contents.list ≡ (hash, c) ∷ old.contents.list → AreNewTo state (record old { contents = contents })
content_more state old contents hash c are absent is = record {
  linked = are.linked;
  beside = are.beside;
  distinct = rw is (both_true _ _ (ap is_none absent) are.distinct);
}

-- where there is no commit there is no map beside it
pub map_absent : (older commits : Commits) (maps : List (Hash × Map)) (hash : Hash) → AreBeside older commits maps → commit_of (commits ++ older) hash ≡ None → map_at maps hash ≡ None
map_absent older commits [] hash are e = refl
map_absent older [] (m ∷ maps) hash are e = absurd are
map_absent older (x ∷ commits) (m ∷ maps) hash are e =
    none_by (same_hash m.0 hash) x.1 m.1 (commit_of (commits ++ older) hash) (map_at maps hash) (map_absent older commits maps hash are.1)
    (subst (λ (h : Hash). commit_of ((h, x.1) ∷ commits ++ older) hash ≡ None) (sym (are.0).hash) e)

-- one commit more, with the map at it, under a hash that is not there
pub commit_more : (state : State) (old new : Additions) (hash : Hash) (c : Commit) (map : Map) → AreNewTo state old → MayBeAdded (with_additions state old).commits c map
    → commit_of (with_additions state old).commits hash ≡ None → same_hash (no_ancestor sha256) hash ≡ false → new.commits.list ≡ (hash, c) ∷ old.commits.list → new.maps.list ≡ (hash, map) ∷ old.maps.list → new.contents ≡ old.contents → HasCommit state old new hash map
commit_more state old new hash c map are next absent below commits maps contents =
    let before : Commits = old.commits.list ++ state.commits in
    record {
      additions = record {
        linked = rw commits (absent, next_of before hash c map next below, are.linked);
        beside = rw (commits, maps) (record { hash = refl; changed = next.changed; well_formed = next.well_formed }, are.beside);
        distinct = rw contents are.distinct;
      };
      contents = contents;
      grows = λ other e. rw commits (known_more (hash, c) before other e);
      known = rw (commits, same_self hash) refl;
      changed = rw commits (entries_new before hash c ∙ sym next.changed);
      count = rw commits (omega arith);
      few = λ fit are. rw commits (both_true _ _ (subst (λ (m : Map). fits state.limits m ≡ true) next.changed fit) are);
    }

-- a commit that is there already
pub commit_there : (state : State) (a : Additions) (hash : Hash) (c : Commit) (map : Map) → AreNewTo state a → MayBeAdded (with_additions state a).commits c map → commit_of (with_additions state a).commits hash ≡ Some c → HasCommit state a a hash map
commit_there state a hash c map are next there = record {
  additions = are;
  contents = refl;
  grows = λ other e. e;
  known = found_is_known (with_additions state a).commits hash c there;
  changed = entries_at (with_additions state a).commits hash c are.linked there ∙ sym next.changed;
  count = omega arith;
  few = λ fit are. are;
}

-- what is visible at a commit that was added is held where the contents of its map are
pub added_held : (state : State) (old new : Additions) (hash : Hash) (map : Map) → HasCommit state old new hash map → has_contents (with_additions state old).present map ≡ true → IsHeldAt (with_additions state new) hash
added_held state old new hash map added there =
    subst (λ (m : Map). has_contents (with_additions state new).present m ≡ true) (sym added.changed)
    (subst (λ (l : Recorded Content). has_contents (l.list ++ state.present) map ≡ true) (sym added.contents) there)

-- ---- in turn

-- the next content is added
pub contents_next : (before after first : State) (more : List Content) (i : ℕ) (c : Content) → i < length more → c ≡ get_or more i c → with_content sha256 before c ≡ Ok after
    → with_contents sha256 before (drop i more) ≡ with_contents sha256 first more → with_contents sha256 after (drop (i + 1) more) ≡ with_contents sha256 first more
contents_next before after first more i c lt e step left =
    let d : drop i more ≡ c ∷ drop (i + 1) more = drop_more more i c lt ∙ ap (λ (x : Content). x ∷ drop (i + 1) more) (sym e) in
    let n : with_contents sha256 before (drop i more) ≡ with_contents sha256 after (drop (i + 1) more) =
    ap (λ (l : List Content). with_contents sha256 before l) d ∙ ap (λ (r : Result State Refusal). r >>= λ held. with_contents sha256 held (drop (i + 1) more)) step in
    sym n ∙ left

-- the commit is added after the contents
pub both_added : {A : Type 0} (meaning : A → State) (r : Result A Failure) (before middle : State) (more : List Content) (c : Commit) → with_contents sha256 before more ≡ Ok middle → GivesAs meaning r (with_commit sha256 middle c) → GivesAs meaning r (with_both before more c)
both_added meaning r before middle more c e step = subst (λ (x : Result State Refusal). GivesAs meaning r (x >>= λ held. with_commit sha256 held c)) (sym e) step
