-- States from which a log may start, by what was found of their parts one after another.
use Rattle.std.proofs.Common.{◌≡◌, ◌≤◌, ℕ, ◌+◌, max, List, [], ◌∷◌, ◌++◌, length, reverse, Option, Some, None, Bool, true, false, ◌&&◌, not, is_none, nat_eq, nat_le, append_assoc, append-nil, refl, sym, ap, ◌∙◌, arith}
use Rattle.std.proofs.lemmas.Bool.{and_from, and_parts, eq-eqb, eqb-true, false_from_ne_true}
use Rattle.std.proofs.lemmas.List.{length-reverse, reverse-append}
use Rattle.std.specs.List.{list_all}
use Rattle.sha2.specs.Sha256.{sha256}
use Rattle.cat_frames.specs.declared.checkpoint.Checkpoint.{Checkpoint}
use Rattle.cat_frames.specs.Bases.{state_in}
use Rattle.cat_graph.specs.Linked.{IsNext, is_merge_known, merge_generation}
use Rattle.cat_model.specs.declared.commit.Commit.{Commit}
use Rattle.cat_model.specs.declared.content.Content.{Content}
use Rattle.cat_model.specs.declared.limits.Limits.{Limits}
use Rattle.cat_model.specs.declared.reference.Reference.{Reference}
use Rattle.cat_model.specs.Chain.{Commits, commit_of, generation}
use Rattle.cat_model.specs.Maps.{Map}
use Rattle.cat_model.specs.Merges.{generation_after}
use Rattle.cat_model.specs.Namespaces.{is_well_formed}
use Rattle.cat_model.specs.Same.{same_hash}
use Rattle.cat_frames.specs.Standing.{are_above, has_main, heads_known, heads_shown, is_whole, is_within, knows, knows_other, maps_pass, may_start, stands_above}
use Rattle.cat_model.specs.State.{State, no_ancestor}
use Rattle.cat_names.specs.declared.hash.Hash.{Hash}
use Rattle.cat_state.specs.Keeping.{AreKept, IsCatalogue, fits}
use Rattle.cat_state.specs.Starting.{map_above, may_all_stand, may_be_added, may_be_map, may_be_references, may_stand}
use Rattle.cat_state.proofs.Within.{is_few, within_by, within_parts}

-- ---- a commit above older ones

one_more : (own : ℕ) → own + 1 ≡ max own 0 + 1
one_more own = omega arith

generation_is : (older : Commits) (parent : Hash) (merge_parent : Option Hash) → generation_after older parent merge_parent ≡ max (generation older parent) (merge_generation older merge_parent) + 1
generation_is older parent None = one_more (generation older parent)
generation_is older parent (Some other) = refl

known_is : (older : Commits) (merge_parent : Option Hash) → knows_other sha256 older merge_parent ≡ is_merge_known older merge_parent
known_is older None = refl
known_is older (Some hash) = refl

none_is : (found : Option Commit) → is_none found ≡ true → found ≡ None
none_is None e = refl
none_is (Some c) e = absurd cc

not_is : (b : Bool) → not b ≡ true → b ≡ false
not_is true e = absurd cc
not_is false e = refl

-- it stands there where none has its hash, and it is the next
pub next_stands : (older : Commits) (hash : Hash) (c : Commit) → commit_of older hash ≡ None → IsNext older hash c → stands_above sha256 older hash c ≡ true
next_stands older hash c absent next =
    let own = is_none (commit_of older hash) in
    let other = not (same_hash (no_ancestor sha256) hash) in
    let parent = knows sha256 older c.parent in
    let merged = knows_other sha256 older c.merge_parent in
    let last = nat_eq c.generation (generation_after older c.parent c.merge_parent) in
    let one : (own && other) ≡ true = and_from own other (ap is_none absent) (ap not next.has_ancestor) in
    let two : (own && other && parent) ≡ true = and_from (own && other) parent one next.parent in
    let three : (own && other && parent && merged) ≡ true = and_from (own && other && parent) merged two (known_is older c.merge_parent ∙ next.merge_parent) in
    and_from (own && other && parent && merged) last three (eq-eqb _ _ (next.generation ∙ sym (generation_is older c.parent c.merge_parent)))

-- and nowhere else
pub stands_next : (older : Commits) (hash : Hash) (c : Commit) → stands_above sha256 older hash c ≡ true → (commit_of older hash ≡ None) × IsNext older hash c
stands_next older hash c stands =
    let own = is_none (commit_of older hash) in
    let other = not (same_hash (no_ancestor sha256) hash) in
    let parent = knows sha256 older c.parent in
    let merged = knows_other sha256 older c.merge_parent in
    let last = nat_eq c.generation (generation_after older c.parent c.merge_parent) in
    let one = and_parts (own && other && parent && merged) last stands in
    let two = and_parts (own && other && parent) merged one.0 in
    let three = and_parts (own && other) parent two.0 in
    let four = and_parts own other three.0 in (
      none_is _ four.0,
      record {
        has_ancestor = not_is _ four.1;
        parent = three.1;
        merge_parent = sym (known_is older c.merge_parent) ∙ two.1;
        generation = eqb-true _ _ one.1 ∙ generation_is older c.parent c.merge_parent;
      },
    )

-- ---- commits one after another

turned : (a b c : Bool) → (b && (a && c)) ≡ ((a && b) && c)
turned true b c = refl
turned false true c = refl
turned false false c = refl

-- what is added to others stands with them
pub added_all : (limits : Limits) (older : Commits) (xs : Commits) → may_all_stand limits (reverse xs ++ older) ≡ (may_be_added limits older xs && may_all_stand limits older)
added_all limits older [] = refl
added_all limits older (x ∷ xs) =
    ap (λ (l : Commits). may_all_stand limits (l ++ older)) (reverse-append (x ∷ []) xs) ∙ ap (may_all_stand limits) (append_assoc (reverse xs) (x ∷ []) older)
    ∙ added_all limits (x ∷ older) xs ∙ turned (may_stand limits older x) (may_be_added limits (x ∷ older) xs) (may_all_stand limits older)

right_true : (b : Bool) → (b && true) ≡ b
right_true true = refl
right_true false = refl

pub added_alone : (limits : Limits) (xs : Commits) → may_all_stand limits (reverse xs) ≡ may_be_added limits [] xs
added_alone limits xs = ap (may_all_stand limits) (sym (append-nil (reverse xs))) ∙ added_all limits [] xs ∙ right_true (may_be_added limits [] xs)

-- each commit stands above those before it, and each map is as it may be
pub all_parts : (limits : Limits) (commits : Commits) → may_all_stand limits commits ≡ true → (are_above sha256 commits ≡ true) × (maps_pass is_well_formed commits ≡ true) × (maps_pass (fits limits) commits ≡ true)
all_parts limits [] e = (refl, refl, refl)
all_parts limits (x ∷ older) e =
    let map = map_above older x.1 in
    let both = and_parts (may_stand limits older x) (may_all_stand limits older) e in
    let own = and_parts (stands_above sha256 older x.0 x.1) (may_be_map limits map) both.0 in
    let of_map = and_parts (is_well_formed map) (fits limits map) own.1 in
    let rest = all_parts limits older both.1 in (
      and_from (stands_above sha256 older x.0 x.1) (are_above sha256 older) own.0 rest.0,
      and_from (is_well_formed map) (maps_pass is_well_formed older) of_map.0 rest.1,
      and_from (fits limits map) (maps_pass (fits limits) older) of_map.1 rest.2,
    )

pub all_from : (limits : Limits) (commits : Commits) → are_above sha256 commits ≡ true → maps_pass is_well_formed commits ≡ true → maps_pass (fits limits) commits ≡ true → may_all_stand limits commits ≡ true
all_from limits [] above well few = refl
all_from limits (x ∷ older) above well few =
    let map = map_above older x.1 in
    let a = and_parts (stands_above sha256 older x.0 x.1) (are_above sha256 older) above in
    let w = and_parts (is_well_formed map) (maps_pass is_well_formed older) well in
    let f = and_parts (fits limits map) (maps_pass (fits limits) older) few in
    and_from (may_stand limits older x) (may_all_stand limits older)
    (and_from (stands_above sha256 older x.0 x.1) (may_be_map limits map) a.0 (and_from (is_well_formed map) (fits limits map) w.0 f.0)) (all_from limits older a.1 w.1 f.1)

-- ---- references

crossed : (a b c d : Bool) → ((a && b) && (c && d)) ≡ ((a && c) && (b && d))
crossed false b c d = refl
crossed true true c d = refl
crossed true false true d = refl
crossed true false false d = refl

-- two tests of each, one after the other
pub all_two : {A : Type 0} (p q : A → Bool) (xs : List A) → (list_all p xs && list_all q xs) ≡ list_all (λ x. p x && q x) xs
all_two p q [] = refl
all_two p q (x ∷ xs) = crossed (p x) (list_all p xs) (q x) (list_all q xs) ∙ ap (λ (b : Bool). (p x && q x) && b) (all_two p q xs)

-- ---- a state

-- all that is found of it, part by part
pub record IsFound (s : State) : Type 0 where
  pub few : is_few s ≡ true
  pub stand : may_all_stand s.limits s.commits ≡ true
  pub references : may_be_references s.commits s.present s.references ≡ true

pub start_found : (s : State) → may_start sha256 s ≡ true → IsFound s
unfolding is_whole
start_found s e =
    let both = and_parts (is_whole sha256 s) (is_within s) e in
    let above = are_above sha256 s.commits in
    let well = maps_pass is_well_formed s.commits in
    let main = has_main s.references in
    let known = heads_known sha256 s.commits s.references in
    let shown = heads_shown s.commits s.present s.references in
    let w1 = and_parts (above && well && main && known) shown both.0 in
    let w2 = and_parts (above && well && main) known w1.0 in
    let w3 = and_parts (above && well) main w2.0 in
    let w4 = and_parts above well w3.0 in
    let within = within_parts s both.1 in
    record {
      few = within.0;
      stand = all_from s.limits s.commits w4.0 w4.1 within.1;
      references = and_from (main && known) shown (and_from main known w3.1 w2.1) w1.1;
    }

pub found_start : (s : State) → IsFound s → may_start sha256 s ≡ true
unfolding is_whole
found_start s found =
    let above = are_above sha256 s.commits in
    let well = maps_pass is_well_formed s.commits in
    let main = has_main s.references in
    let known = heads_known sha256 s.commits s.references in
    let shown = heads_shown s.commits s.present s.references in
    let stand = all_parts s.limits s.commits found.stand in
    let r = and_parts (main && known) shown found.references in
    let m = and_parts main known r.0 in
    and_from (is_whole sha256 s) (is_within s)
    (and_from (above && well && main && known) shown (and_from (above && well && main) known (and_from (above && well) main (and_from above well stand.0 stand.1) m.0) m.1) r.1)
    (within_by s found.few stand.2)

-- ---- the state in a checkpoint

few_is : (limits : Limits) (c : Checkpoint) → is_few (state_in limits c)
    ≡ (nat_le (length c.references) (max 1 limits.references) && nat_le c.place limits.log && nat_le (length c.commits) limits.commits && nat_le (length c.contents) limits.contents)
few_is limits c = λ i.
    nat_le (length c.references) (max 1 limits.references) && nat_le c.place limits.log && nat_le (length-reverse c.commits i) limits.commits && nat_le (length-reverse c.contents i) limits.contents

not_both : (b : Bool) → b ≡ true → b ≡ false → ⊥
not_both true e f = cc
not_both false e f = cc

-- refused for its sizes
pub refused_size : (limits : Limits) (c : Checkpoint)
    → (nat_le (length c.references) (max 1 limits.references) && nat_le c.place limits.log && nat_le (length c.commits) limits.commits && nat_le (length c.contents) limits.contents) ≡ false
    → may_start sha256 (state_in limits c) ≡ false
refused_size limits c e = false_from_ne_true _ (λ may. not_both _ (start_found (state_in limits c) may).few (few_is limits c ∙ e))

-- for a commit
pub refused_commits : (limits : Limits) (c : Checkpoint) → may_be_added limits [] c.commits ≡ false → may_start sha256 (state_in limits c) ≡ false
refused_commits limits c e = false_from_ne_true _ (λ may. not_both _ (start_found (state_in limits c) may).stand (added_alone limits c.commits ∙ e))

-- for a reference
pub refused_references : (limits : Limits) (c : Checkpoint) → may_be_references (reverse c.commits) (reverse c.contents) c.references ≡ false → may_start sha256 (state_in limits c) ≡ false
refused_references limits c e = false_from_ne_true _ (λ may. not_both _ (start_found (state_in limits c) may).references e)

-- what was made of a checkpoint's parts is tested as these are
pub same_references : (c : Checkpoint) (references : List Reference) (commits : Commits) (contents : List (Hash × Content)) → references ≡ c.references → commits ≡ reverse c.commits → contents ≡ reverse c.contents
    → may_be_references commits contents references ≡ may_be_references (reverse c.commits) (reverse c.contents) c.references
same_references c references commits contents named made held = λ i. may_be_references (made i) (held i) (named i)

-- and else not
pub starts_all : (limits : Limits) (c : Checkpoint)
    → (nat_le (length c.references) (max 1 limits.references) && nat_le c.place limits.log && nat_le (length c.commits) limits.commits && nat_le (length c.contents) limits.contents) ≡ true
    → may_be_added limits [] c.commits ≡ true → may_be_references (reverse c.commits) (reverse c.contents) c.references ≡ true → may_start sha256 (state_in limits c) ≡ true
starts_all limits c few added references = found_start (state_in limits c) (record {
  few = few_is limits c ∙ few;
  stand = added_alone limits c.commits ∙ added;
  references = references;
})

-- the parts of its catalogue
pub catalogue_found : (limits : Limits) (c : Checkpoint) (references : List Reference) (commits : Commits) (maps : List (Hash × Map)) (contents : List (Hash × Content)) → limits.log ≤ 4294967295 → limits.commits ≤ 4294967295 → AreKept maps commits
    → references ≡ c.references → commits ≡ reverse c.commits → contents ≡ reverse c.contents
    → (nat_le (length c.references) (max 1 limits.references) && nat_le c.place limits.log && nat_le (length c.commits) limits.commits && nat_le (length c.contents) limits.contents) ≡ true
    → may_be_added limits [] c.commits ≡ true → may_be_references commits contents references ≡ true → IsCatalogue limits references commits maps contents c.place
catalogue_found limits c references commits maps contents log most kept named made held few added may =
    let r = and_parts (has_main references && heads_known sha256 commits references) (heads_shown commits contents references) may in
    let starts = starts_all limits c few added (sym (same_references c references commits contents named made held) ∙ may) in
    record {
      log_bound = log;
      commits_bound = most;
      kept = kept;
      heads = (and_parts (has_main references) (heads_known sha256 commits references) r.0).1;
      held = r.1;
      within = (λ i. is_within (record { place = c.place; references = named i; commits = made i; present = held i; limits = limits })) ∙ (and_parts (is_whole sha256 (state_in limits c)) (is_within (state_in limits c)) starts).1;
    }
