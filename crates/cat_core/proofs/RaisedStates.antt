-- States with more commits and contents: what references pointed at stays, and a commit that is added stands above its parents.
use Rattle.std.proofs.Common.{◌≡◌, ⊎_elim, ℕ, List, [], ◌∷◌, Some, None, Ok, Bool, true, false, ◌||◌, is_some, if◌then◌else◌, refl, sym, ap, subst, ◌∙◌}
use Rattle.std.specs.Cmp.Lexicographic.{bytes_decides}
use Rattle.sha2.specs.Sha256.{sha256}
use Rattle.cat_names.specs.declared.hash.Hash.{Hash}
use Rattle.cat_model.specs.declared.commit.Commit.{Commit}
use Rattle.cat_model.specs.declared.reference.Reference.{Reference}
use Rattle.cat_model.specs.Chain.{Commits, chain, commit_of, entries, map_of}
use Rattle.cat_model.specs.Formats.{commit_code}
use Rattle.cat_model.specs.Maps.{IsMap, after_changes}
use Rattle.cat_model.specs.Namespaces.{is_well_formed}
use Rattle.cat_model.specs.Records.{with_commit}
use Rattle.cat_model.specs.Same.{same_hash}
use Rattle.cat_model.specs.State.{State, commit_hash, moved_reference, no_ancestor}
use Rattle.cat_frames.specs.Standing.{maps_pass}
use Rattle.cat_keymap.specs.MapLaws.{IsMap-after_changes}
use Rattle.cat_graph.specs.GraphLaws.{apart, entries_before, entries_new}
use Rattle.cat_graph.specs.Linked.{AreLinked, is_known, is_merge_known, next_generation}
use Rattle.cat_tables.specs.References.{heads_pass}
use Rattle.cat_tables.specs.ReferenceLaws.{and_true, both_true, split}
use Rattle.cat_checks.specs.KeptMaps.{KeepsItsMap}
use Rattle.cat_checks.specs.WithinLaws.{IsThere, commit_to}
use Rattle.cat_state.specs.HeldLaws.{all_both, all_more}
use Rattle.cat_state.specs.Keeping.{has_contents, is_held_at}
use Rattle.cat_state.proofs.Heads.{known_more}
use Rattle.cat_state.proofs.Held.{Grows, map_stays}
use Rattle.cat_core.proofs.FullStates.{IsFull, all_moved}

-- ---- states with more

-- the same references, more commits and contents, and the maps at the commits that were known
pub record IsRaised (x y : State) : Type 0 where
  pub references : y.references ≡ x.references
  pub linked : AreLinked y.commits
  pub formed : maps_pass is_well_formed y.commits ≡ true
  pub known : (hash : Hash) → is_known x.commits hash ≡ true → is_known y.commits hash ≡ true
  pub entries_stay : (hash : Hash) → is_known x.commits hash ≡ true → entries y.commits hash ≡ entries x.commits hash
  pub there : Grows x.present y.present

pub raised_self : (x : State) → AreLinked x.commits → maps_pass is_well_formed x.commits ≡ true → IsRaised x x
raised_self x linked formed = record { references = refl; linked = linked; formed = formed; known = λ hash e. e; entries_stay = λ hash e. refl; there = λ hash e. e }

pub raised_on : (x y z : State) → IsRaised x y → IsRaised y z → IsRaised x z
raised_on x y z one two = record {
  references = two.references ∙ one.references;
  linked = two.linked;
  formed = two.formed;
  known = λ hash e. two.known hash (one.known hash e);
  entries_stay = λ hash e. two.entries_stay hash (one.known hash e) ∙ one.entries_stay hash e;
  there = λ hash e. two.there hash (one.there hash e);
}

-- with a reference at a commit that is known there, whose contents are there
pub raised_full : (x y : State) (moved : Reference) (place : ℕ) → IsFull x → IsRaised x y → is_known y.commits moved.head ≡ true → has_contents y.present (entries y.commits moved.head) ≡ true
    → IsFull (record y { place = place; references = moved_reference y.references moved })
raised_full x y moved place full raised known there =
    let heads : heads_pass (is_known y.commits) y.references ≡ true =
    subst (λ (l : List Reference). heads_pass (is_known y.commits) l ≡ true) (sym raised.references)
    (all_more (λ r. is_known x.commits r.head) (λ r. is_known y.commits r.head) x.references (λ r e. raised.known r.head e) full.heads) in
    let held : heads_pass (is_held_at y.commits y.present) y.references ≡ true =
    subst (λ (l : List Reference). heads_pass (is_held_at y.commits y.present) l ≡ true) (sym raised.references)
    (all_both (λ r. is_known x.commits r.head) (λ r. is_held_at x.commits x.present r.head) (λ r. is_held_at y.commits y.present r.head) x.references
    (λ r e f. ap (has_contents y.present) (raised.entries_stay r.head e) ∙ map_stays x.present y.present (entries x.commits r.head) raised.there f) full.heads full.held) in
    record {
      linked = raised.linked;
      formed = raised.formed;
      heads = all_moved (λ r. is_known y.commits r.head) y.references moved known heads;
      held = all_moved (λ r. is_held_at y.commits y.present r.head) y.references moved there held;
    }

-- ---- a commit

-- a commit that may stand above those of a state: its parents are known, its generation is the next, its map is well-formed, and so it is at a commit of its bytes that is there already
pub record MayStand (x : State) (c : Commit) : Type 0 where
  pub parent : is_known x.commits c.parent ≡ true
  pub merge_parent : is_merge_known x.commits c.merge_parent ≡ true
  pub generation : c.generation ≡ next_generation x.commits c
  pub formed : is_well_formed (after_changes c.ops (entries x.commits c.parent)) ≡ true
  pub kept : KeepsItsMap sha256 x.commits c

-- what it leaves
pub record StandsOn (x y : State) (c : Commit) : Type 0 where
  pub raised : IsRaised x y
  pub known : is_known y.commits (commit_hash sha256 c) ≡ true
  pub shown : entries y.commits (commit_hash sha256 c) ≡ after_changes c.ops (entries x.commits c.parent)

own_known : (hash : Hash) (c : Commit) (commits : Commits) → is_known ((hash, c) ∷ commits) hash ≡ true
own_known hash c commits = by (same_hash hash hash) ((bytes_decides hash.bytes hash.bytes).1 refl)
  where
    by : (t : Bool) → t ≡ true → (is_some (if t then Some c else commit_of commits hash) || same_hash (no_ancestor sha256) hash) ≡ true
    by true e = refl
    by false e = absurd cc

new_raised : (x : State) (hash : Hash) (c : Commit) → AreLinked x.commits → maps_pass is_well_formed x.commits ≡ true → MayStand x c → commit_of x.commits hash ≡ None → same_hash (no_ancestor sha256) hash ≡ false
    → IsRaised x (record x { commits = (hash, c) ∷ x.commits })
new_raised x hash c linked formed may absent other = record {
  references = refl;
  linked = (absent, record { has_ancestor = other; parent = may.parent; merge_parent = may.merge_parent; generation = may.generation }, linked);
  formed = both_true _ _ may.formed formed;
  known = λ h e. known_more (hash, c) x.commits h e;
  entries_stay = λ h e. entries_before x.commits hash c h (apart x.commits hash h absent other e);
  there = λ h e. e;
}

pub commit_stands : (x y : State) (c : Commit) → AreLinked x.commits → maps_pass is_well_formed x.commits ≡ true → MayStand x c → with_commit sha256 x c ≡ Ok y → StandsOn x y c
commit_stands x y c linked formed may made =
    let hash : Hash = commit_hash sha256 c in
    ⊎_elim
    (λ (stays : (y ≡ x) × (is_known x.commits hash ≡ true) × IsThere x.commits hash ((commit_code).spell c)).
    let there : IsThere x.commits hash ((commit_code).spell c) = stays.2 in
    subst (λ (s : State). StandsOn x s c) (sym stays.0) (record { raised = raised_self x linked formed; known = stays.1; shown = may.kept there.0 there.1 there.2 }))
    (λ (new : (commit_of x.commits hash ≡ None) × (same_hash (no_ancestor sha256) hash ≡ false) × (y ≡ record x { commits = (hash, c) ∷ x.commits })).
    subst (λ (s : State). StandsOn x s c) (sym new.2) (record {
      raised = new_raised x hash c linked formed may new.0 new.1;
      known = own_known hash c x.commits;
      shown = entries_new x.commits hash c;
    }))
    (commit_to sha256 x y c made)

-- ---- maps

-- the map at any commit is well-formed
pub map_formed : (commits : Commits) (hash : Hash) → maps_pass is_well_formed commits ≡ true → is_well_formed (entries commits hash) ≡ true
unfolding is_well_formed entries
map_formed [] hash formed = refl
map_formed (x ∷ older) hash formed =
    let both = and_true (is_well_formed (after_changes x.1.ops (entries older x.1.parent))) (maps_pass is_well_formed older) formed in
    split (same_hash x.0 hash)
    (λ is. rw is both.0)
    (λ other. rw other (map_formed older hash both.1))

-- its keys ascend
pub map_ascends : (commits : Commits) (hash : Hash) → IsMap (entries commits hash)
unfolding entries
map_ascends commits hash = by (chain commits hash)
  where
    by : (l : Commits) → IsMap (map_of l)
    by [] = refl
    by (x ∷ l) = IsMap-after_changes x.1.ops (map_of l) (by l)
