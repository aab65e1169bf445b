-- The maps that are kept against the definitions.
use Rattle.std.proofs.Common.{◌≡◌, List, [], ◌∷◌, Option, Some, None, Bool, true, false, cond, if◌then◌else◌, refl, sym, ap, subst, ◌∙◌}
use Rattle.std.specs.Option.{option_map}
use Rattle.sha2.specs.Sha256.{sha256}
use Rattle.cat_names.specs.declared.hash.Hash.{Hash}
use Rattle.cat_graph.specs.Linked.{IsNext}
use Rattle.cat_keymap.specs.MapsAt.{map_at}
use Rattle.cat_model.specs.declared.commit.Commit.{Commit}
use Rattle.cat_model.specs.Chain.{Commits, commit_of, chain, map_of, entries}
use Rattle.cat_model.specs.Maps.{Map, after_changes}
use Rattle.cat_model.specs.Namespaces.{is_well_formed}
use Rattle.cat_model.specs.Same.{same_hash}
use Rattle.cat_model.specs.State.{no_ancestor}
use Rattle.cat_state.specs.Keeping.{found_map, AreKept, MayBeAdded}

-- ---- the map at a commit

map_by : (b : Bool) (x : Hash × Commit) (m : Map) (older : Commits) (found : Option Map) (hash : Hash) → m ≡ after_changes x.1.ops (entries older x.1.parent) → entries older hash ≡ found_map found
    → map_of (cond b (x ∷ chain older x.1.parent) (chain older hash)) ≡ found_map (cond b (Some m) found)
unfolding entries
map_by true x m older found hash changed e = sym changed
map_by false x m older found hash changed e = e

pub map_is : (maps : List (Hash × Map)) (commits : Commits) (hash : Hash) → AreKept maps commits → entries commits hash ≡ found_map (map_at maps hash)
unfolding entries
map_is [] [] hash are = refl
map_is [] (x ∷ older) hash are = absurd are
map_is (m ∷ maps) [] hash are = absurd are
map_is (m ∷ maps) (x ∷ older) hash are =
    subst (λ (h : Hash). entries (x ∷ older) hash ≡ found_map (if same_hash h hash then Some m.1 else map_at maps hash)) (sym (are.0).hash)
    (map_by (same_hash x.0 hash) x m.1 older (map_at maps hash) hash (are.0).changed (map_is maps older hash are.1))

well_by : (b : Bool) (m : Map) (found : Option Map) → is_well_formed m ≡ true → is_well_formed (found_map found) ≡ true → is_well_formed (found_map (cond b (Some m) found)) ≡ true
well_by true m found h g = h
well_by false m found h g = g

well_found : (maps : List (Hash × Map)) (commits : Commits) (hash : Hash) → AreKept maps commits → is_well_formed (found_map (map_at maps hash)) ≡ true
unfolding is_well_formed
well_found [] [] hash are = refl
well_found [] (x ∷ older) hash are = absurd are
well_found (m ∷ maps) [] hash are = absurd are
well_found (m ∷ maps) (x ∷ older) hash are = well_by (same_hash m.0 hash) m.1 (map_at maps hash) (are.0).well_formed (well_found maps older hash are.1)

-- the map at each commit is well-formed
pub well_entries : (maps : List (Hash × Map)) (commits : Commits) (hash : Hash) → AreKept maps commits → is_well_formed (entries commits hash) ≡ true
well_entries maps commits hash are = subst (λ (m : Map). is_well_formed m ≡ true) (sym (map_is maps commits hash are)) (well_found maps commits hash are)

-- ---- one commit more

pub none_by : (b : Bool) (c : Commit) (m : Map) (commit : Option Commit) (map : Option Map) → (commit ≡ None → map ≡ None) → cond b (Some c) commit ≡ None → cond b (Some m) map ≡ None
none_by true c m commit map more e = absurd cc
none_by false c m commit map more e = more e

-- where there is no commit there is no map
pub map_absent : (maps : List (Hash × Map)) (commits : Commits) (hash : Hash) → AreKept maps commits → commit_of commits hash ≡ None → map_at maps hash ≡ None
map_absent [] [] hash are e = refl
map_absent [] (x ∷ older) hash are e = absurd are
map_absent (m ∷ maps) [] hash are e = absurd are
map_absent (m ∷ maps) (x ∷ older) hash are e =
    none_by (same_hash m.0 hash) x.1 m.1 (commit_of older hash) (map_at maps hash) (map_absent maps older hash are.1) (subst (λ (h : Hash). cond (same_hash h hash) (Some x.1) (commit_of older hash) ≡ None) (sym (are.0).hash) e)

-- a commit that may be added can be, under a hash other than the one that has no ancestor
pub next_of : (commits : Commits) (hash : Hash) (c : Commit) (map : Map) → MayBeAdded commits c map → same_hash (no_ancestor sha256) hash ≡ false → IsNext commits hash c
next_of commits hash c map next below = record { has_ancestor = below; parent = next.parent; merge_parent = next.merge_parent; generation = next.generation }

-- and the maps are kept with it
pub kept_more : (maps : List (Hash × Map)) (commits : Commits) (hash : Hash) (c : Commit) (map : Map) → AreKept maps commits → MayBeAdded commits c map → AreKept ((hash, map) ∷ maps) ((hash, c) ∷ commits)
kept_more maps commits hash c map are next = (record { hash = refl; changed = next.changed; well_formed = next.well_formed }, are)

-- ---- look-ups

-- a look-up of the map at a commit, by what it gave
pub map_found : {V : Type 0} (value : V → Map) (maps : List (Hash × Map)) (commits : Commits) (hash : Hash) (found given : Option V) → AreKept maps commits → option_map value found ≡ map_at maps hash → found ≡ given → found_map (option_map value given) ≡ entries commits hash
map_found value maps commits hash found given are e is = sym (map_is maps commits hash are ∙ ap found_map (sym e ∙ ap (option_map value) is))
