-- What holds of a catalogue after a change.
use Rattle.std.proofs.Common.{◌≡◌, ◌≤◌, ◌<◌, ◌+◌, List, [], ◌∷◌, ◌++◌, None, Bool, true, not, IsTrue, refl, sym, subst, ◌∙◌}
use Rattle.sha2.specs.Sha256.{sha256}
use Rattle.cat_names.specs.declared.hash.Hash.{Hash}
use Rattle.cat_graph.specs.GraphLaws.{same_self}
use Rattle.cat_graph.specs.Linked.{AreLinked, is_known}
use Rattle.cat_keymap.specs.MapsAt.{map_is}
use Rattle.cat_model.specs.declared.content.Content.{Content}
use Rattle.cat_model.specs.declared.limits.Limits.{Limits}
use Rattle.cat_model.specs.declared.reference.Reference.{Reference}
use Rattle.cat_model.specs.Base.{is_among}
use Rattle.cat_model.specs.Chain.{Commits, commit_of, entries}
use Rattle.cat_model.specs.Maps.{Map}
use Rattle.cat_model.specs.State.{State, no_ancestor}
use Rattle.cat_tables.specs.ReferenceLaws.{heads_kept_with, heads_kept_without, heads_kept_moved}
use Rattle.cat_tables.specs.References.{heads_pass}
use Rattle.cat_tables.specs.Tables.{are_distinct}
use Rattle.cat_state.specs.declared.change.Change.{Change}
use Rattle.cat_state.specs.declared.change.ReferenceChange.{ReferenceChange}
use Rattle.cat_state.specs.declared.change.ReferenceChange.TheVariants.{Made, Moved, Removed}
use Rattle.cat_state.specs.Changed.{HasNewName, IsNewTo}
use Rattle.cat_state.specs.Changing.{AreBeside, MayBeHead, MayBeMade, MayBecome, changed_references, with_additions}
use Rattle.cat_state.specs.HeldLaws.{all_both}
use Rattle.cat_state.specs.Keeping.{AreKept, IsCatalogue, IsHeldAt, has_contents, is_held_at}
use Rattle.cat_state.specs.Sweeping.{spares_at, without}
use Rattle.cat_state.proofs.Heads.{all_known, heads_more}
use Rattle.cat_state.proofs.Held.{Contents, Grows, map_stays, spared_stays, there_more}
use Rattle.cat_state.proofs.Kept.{map_absent}
use Rattle.cat_state.proofs.Upon.{entries_stay}
use Rattle.cat_state.proofs.Within.{within_first, within_without}

-- ---- maps

-- the maps beside added commits and those before are kept
kept_with : (older commits : Commits) (more maps : List (Hash × Map)) → AreBeside older commits more → AreKept maps older → AreKept (more ++ maps) (commits ++ older)
kept_with older [] [] maps beside are = are
kept_with older [] (m ∷ more) maps beside are = absurd beside
kept_with older (x ∷ commits) [] maps beside are = absurd beside
kept_with older (x ∷ commits) (m ∷ more) maps beside are = (beside.0, kept_with older commits more maps beside.1 are)

-- no hash of maps that are kept comes twice
pub kept_distinct : (maps : List (Hash × Map)) (commits : Commits) → AreKept maps commits → AreLinked commits → are_distinct maps ≡ true
kept_distinct [] commits are linked = refl
kept_distinct (m ∷ maps) [] are linked = absurd are
kept_distinct (m ∷ maps) (x ∷ older) are linked =
    let absent = map_absent maps older m.0 are.1 (subst (λ (h : Hash). commit_of older h ≡ None) (sym (are.0).hash) linked.0) in
    rw (sym (map_is maps m.0) ∙ absent) (kept_distinct maps older are.1 linked.2)

-- nor one that is a new commit's
pub map_is_new : (maps : List (Hash × Map)) (commits : Commits) (hash : Hash) (map : Map) → AreKept maps commits → AreLinked commits → commit_of commits hash ≡ None → are_distinct ((hash, map) ∷ maps) ≡ true
map_is_new maps commits hash map are linked absent = rw (sym (map_is maps hash) ∙ map_absent maps commits hash are absent) (kept_distinct maps commits are linked)

-- ---- contents

more_there : (more older : Contents) → Grows older (more ++ older)
more_there [] older hash e = e
more_there (x ∷ more) older hash e = there_more x (more ++ older) hash (more_there more older hash e)

-- ---- heads

-- each head after a change passes what those before do and a new one does
heads_changed : (pass : Hash → Bool) (state : State) (references : List Reference) (change : ReferenceChange) → MayBecome state change → ((head : Hash) → MayBeHead state head → pass head ≡ true) → heads_pass pass references ≡ true
    → heads_pass pass (changed_references references change) ≡ true
heads_changed pass state references (Made r) may passes are = heads_kept_with pass references r (passes r.head may.1) are
heads_changed pass state references (Moved r) may passes are = heads_kept_moved pass references r (passes r.head may) are
heads_changed pass state references (Removed name) may passes are = heads_kept_without pass references name are

-- what is visible at a known commit stays held below what is added
held_more : (s : State) (more : Commits) (contents : Contents) (head : Hash) → AreLinked (more ++ s.commits) → IsTrue (is_known s.commits head) → IsHeldAt s head → is_held_at (more ++ s.commits) (contents ++ s.present) head ≡ true
held_more s more contents head linked known held =
    subst (λ (m : Map). has_contents (contents ++ s.present) m ≡ true) (sym (entries_stay more s.commits head linked known))
    (map_stays s.present (contents ++ s.present) (entries s.commits head) (more_there contents s.present) held)

heads_held : (s : State) (more : Commits) (contents : Contents) (references : List Reference) → AreLinked (more ++ s.commits) → IsTrue (heads_pass (is_known s.commits) references) → IsTrue (heads_pass (is_held_at s.commits s.present) references)
    → IsTrue (heads_pass (is_held_at (more ++ s.commits) (contents ++ s.present)) references)
heads_held s more contents references linked known held =
    all_both (λ r. is_known s.commits r.head) (λ r. is_held_at s.commits s.present r.head) (λ r. is_held_at (more ++ s.commits) (contents ++ s.present) r.head) references (λ r. held_more s more contents r.head linked) known held

-- ---- all of it

-- the parts of a catalogue without a commit
pub catalogue_empty : (limits : Limits) (main : Reference) → limits.log ≤ 4294967295 → limits.commits ≤ 4294967295 → main.head ≡ no_ancestor sha256 → IsCatalogue limits (main ∷ []) [] [] [] 0
unfolding entries
catalogue_empty limits main log commits head = record { log_bound = log; commits_bound = commits; kept = tt; heads = rw (head, same_self (no_ancestor sha256)) refl; held = refl; within = within_first limits main }

-- a catalogue's parts after a change that it may take
pub catalogue_changed : (s : State) (maps : List (Hash × Map)) (c : Change) → IsCatalogue s.limits s.references s.commits maps s.present s.place → MayBeMade s c
    → IsCatalogue s.limits (changed_references s.references c.reference) (c.additions.commits.list ++ s.commits) (c.additions.maps.list ++ maps) (c.additions.contents.list ++ s.present) (s.place + 1)
catalogue_changed s maps c is may =
    let added = may.additions in
    record {
      log_bound = is.log_bound;
      commits_bound = is.commits_bound;
      kept = kept_with s.commits c.additions.commits.list c.additions.maps.list maps added.beside is.kept;
      heads = heads_changed (is_known (c.additions.commits.list ++ s.commits)) (with_additions s c.additions) s.references c.reference may.reference (λ head may. may.known)
          (heads_more s.commits (c.additions.commits.list ++ s.commits) s.references (all_known c.additions.commits.list s.commits) is.heads);
      held = heads_changed (is_held_at (c.additions.commits.list ++ s.commits) (c.additions.contents.list ++ s.present)) (with_additions s c.additions) s.references c.reference may.reference (λ head may. may.held)
          (heads_held s c.additions.commits.list c.additions.contents.list s.references added.linked is.heads is.held);
      within = may.within is.within;
    }

named_newly : (state : State) (change : ReferenceChange) → MayBecome state change → HasNewName state.references change
named_newly state (Made r) may = may.0
named_newly state (Moved r) may = tt
named_newly state (Removed name) may = tt

-- such a change is new to its tables
pub new_to_tables : (s : State) (maps : List (Hash × Map)) (c : Change) → IsCatalogue s.limits s.references s.commits maps s.present s.place → MayBeMade s c → IsNewTo s.references s.present s.commits maps c
new_to_tables s maps c is may =
    let added = may.additions in
    record {
      new_name = named_newly (with_additions s c.additions) c.reference may.reference;
      distinct_contents = added.distinct;
      linked = added.linked;
      distinct_maps = kept_distinct (c.additions.maps.list ++ maps) (c.additions.commits.list ++ s.commits) (kept_with s.commits c.additions.commits.list c.additions.maps.list maps added.beside is.kept) added.linked;
    }

-- a catalogue's parts after a sweep of what no head shows
pub catalogue_swept : (s : State) (maps : List (Hash × Map)) (hashes : List Hash) → IsCatalogue s.limits s.references s.commits maps s.present s.place → IsTrue (heads_pass (spares_at s.commits hashes) s.references) → s.place < s.limits.log
    → IsCatalogue s.limits s.references s.commits maps (without hashes s.present) (s.place + 1)
catalogue_swept s maps hashes is spared log = record {
  log_bound = is.log_bound;
  commits_bound = is.commits_bound;
  kept = is.kept;
  heads = is.heads;
  held = all_both (λ r. is_held_at s.commits s.present r.head) (λ r. spares_at s.commits hashes r.head) (λ r. is_held_at s.commits (without hashes s.present) r.head) s.references
      (λ r. spared_stays hashes s.present (entries s.commits r.head)) is.held spared;
  within = within_without s (λ (x : Hash × Content). not (is_among hashes x.0)) log is.within;
}
