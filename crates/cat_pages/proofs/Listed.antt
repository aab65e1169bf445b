-- Pages of entries, references and commits make their listings.
use Rattle.std.proofs.Common.{◌≡◌, ℕ, ◌+◌, ◌<◌, Bool, true, false, cond, List, [], ◌∷◌, ◌++◌, length, take, drop, Option, Some, None, is_some, ◌||◌, refl, sym, ap, ◌∙◌}
use Rattle.std.proofs.lemmas.Bool.{false_from_ne_true}
use Rattle.std.specs.Cmp.Lexicographic.{bytes_decides, nat_list_cmp_total}
use Rattle.std.specs.List.{list_all}
use Rattle.std.specs.Option.{option_map}
use Rattle.std.specs.Ordering.{is_lt, ordering_reverse}
use Rattle.std.specs.declared.cmp.Ordering.{Ordering}
use Rattle.std.specs.declared.cmp.Ordering.TheVariants.{Less, Equal, Greater}
use Rattle.cat_codes.specs.Code.{ascends}
use Rattle.cat_graph.proofs.Walks.{chain_end}
use Rattle.cat_graph.specs.GraphLaws.{apart, same_is}
use Rattle.cat_graph.specs.Linked.{AreLinked, is_known}
use Rattle.cat_keymap.specs.KeyOrder.{key_total, less_is, head_tail, and_true, both_true, ascends_any, ascends_lower}
use Rattle.cat_model.specs.Chain.{Commits, chain, commit_of, entries, map_of}
use Rattle.cat_model.specs.Listing.{passes, listing, entries_after}
use Rattle.cat_model.specs.Maps.{Map, IsMap}
use Rattle.cat_model.specs.Pages.{first, last_shown, pages, references_after, up_to, until, history}
use Rattle.cat_model.specs.Same.{same_hash}
use Rattle.cat_model.specs.declared.commit.Commit.{Commit}
use Rattle.cat_model.specs.declared.entry.Entry.{Entry}
use Rattle.cat_model.specs.declared.filter.Filter.{Filter}
use Rattle.cat_model.specs.declared.reference.Reference.{Reference}
use Rattle.cat_names.specs.Fields.{Key, key_cmp}
use Rattle.cat_names.specs.declared.hash.Hash.{Hash}
use Rattle.cat_pages.proofs.Pages.{AreFrom, by_last, by_next}
use Rattle.cat_pages.proofs.Sorted.{Ascend, ascend_kept, above_are_behind, by_key}
use Rattle.cat_tables.specs.ReferenceLaws.{not_above}
use Rattle.cat_tables.specs.References.{is_below, names_ascend}

-- ---- orders

-- what is below another is not above it, nor is anything below itself
not_back : (o : Ordering) → o ≡ Less → is_lt (ordering_reverse o) ≡ false
not_back o e = rw e refl

itself : (o : Ordering) → o ≡ ordering_reverse o → is_lt o ≡ false
itself Less e = absurd cc
itself Equal e = refl
itself Greater e = refl

-- ---- entries

abbrev key_below : Key × Entry → Key × Entry → Bool
key_below x y = is_lt (key_cmp x.0 y.0)

all_higher : (x : Key × Entry) (map : Map) → ascends key_cmp (Some x.0) map ≡ true → list_all (key_below x) map ≡ true
all_higher x [] up = refl
all_higher x (y ∷ map) up =
    let t = head_tail (Some x.0) y map up in
    both_true _ _ t.0 (all_higher x map (ascends_lower y.0 (Some x.0) map t.0 t.1))

map_ascends : (map : Map) → IsMap map → Ascend key_below map
map_ascends [] up = tt
map_ascends (x ∷ map) up = let t = (head_tail None x map up).1 in (all_higher x map t, map_ascends map (ascends_any x.0 map t))

pub entry_pages : (map : Map) (filter : Filter) (limit : ℕ) → IsMap map → 0 < limit
    → pages (take limit) (λ left. option_map (λ x. x.0) (last_shown limit left)) (λ key. entries_after (listing map filter) (Some key)) (length (listing map filter) + 1) (listing map filter) ≡ listing map filter
entry_pages map f limit is some =
    by_last (λ (x : Key × Entry). x.0) (λ key. entries_after (listing map f) (Some key)) limit (listing map f) some
    (by_key (λ (x : Key × Entry). x.0) (λ key. entries_after (listing map f) (Some key)) (listing map f)
    (above_are_behind key_below (λ x y e. ap is_lt (key_total.antisymm y.0 x.0) ∙ not_back _ (less_is _ e)) (λ x. itself _ (key_total.antisymm x.0 x.0))
    (listing map f) (ascend_kept key_below (λ x. passes f x.0) map (map_ascends map is))))

-- ---- references

abbrev name_below : Reference → Reference → Bool
name_below a b = is_below a.name b.name

names_do : (references : List Reference) → names_ascend references ≡ true → Ascend name_below references
names_do [] up = tt
names_do (r ∷ references) up =
    let a = and_true (list_all (name_below r) references) (names_ascend references) up in
    (a.0, names_do references a.1)

pub reference_pages : (references : List Reference) (limit : ℕ) → names_ascend references ≡ true → 0 < limit
    → pages (take limit) (λ left. option_map (λ r. r.name) (last_shown limit left)) (λ name. references_after references (Some name)) (length references + 1) references ≡ references
reference_pages references limit up some =
    by_last (λ (r : Reference). r.name) (λ name. references_after references (Some name)) limit references some
    (by_key (λ (r : Reference). r.name) (λ name. references_after references (Some name)) references
    (above_are_behind name_below (λ a b e. not_above a.name b.name e) (λ r. itself _ (nat_list_cmp_total.antisymm r.name r.name)) references (names_do references up)))

-- ---- commits

abbrev hash_of_pair : Hash × Commit → Hash
hash_of_pair x = x.0

same_self : (hash : Hash) → same_hash hash hash ≡ true
same_self hash = (bytes_decides hash.bytes hash.bytes).1 refl

none_there : {X : Type 0} (xs : List X) (y : X) (ys : List X) → xs ≡ [] → xs ≡ y ∷ ys → ⊥
none_there [] y ys e f = cc
none_there (x ∷ xs) y ys e f = cc

-- chains from commits of an older chain stay
from_more : (x : Hash × Commit) (older : Commits) (left : Commits) → commit_of older x.0 ≡ None → AreFrom hash_of_pair (chain older) left → AreFrom hash_of_pair (chain (x ∷ older)) left
from_more x older [] absent are = tt
from_more x older (y ∷ left) absent are =
    let other : same_hash x.0 y.0 ≡ false = false_from_ne_true (same_hash x.0 y.0) (λ e.
    none_there (chain older y.0) y left (ap (chain older) (sym (same_is x.0 y.0 e)) ∙ chain_end older x.0 absent) are.0) in
    (rw other are.0, from_more x older left absent are.1)

-- from each commit of a chain the chain goes on as there
chain_from : (commits : Commits) (hash : Hash) → AreLinked commits → AreFrom hash_of_pair (chain commits) (chain commits hash)
chain_from [] hash are = tt
chain_from (x ∷ older) hash are =
    by (same_hash x.0 hash) (from_more x older (chain older (x.1).parent) are.0 (chain_from older (x.1).parent are.2)) (from_more x older (chain older hash) are.0 (chain_from older hash are.2))
  where
    by : (b : Bool) → AreFrom hash_of_pair (chain (x ∷ older)) (chain older (x.1).parent) → AreFrom hash_of_pair (chain (x ∷ older)) (chain older hash)
        → AreFrom hash_of_pair (chain (x ∷ older)) (cond b (x ∷ chain older (x.1).parent) (chain older hash))
    by true parent other = (rw (same_self x.0) refl, parent)
    by false parent other = other

abbrev up_to_from : Commits → Hash → Hash → Commits
up_to_from commits last hash = up_to (chain commits hash) last

up_to_are : (commits left : Commits) (last : Hash) → AreFrom hash_of_pair (chain commits) left → AreFrom hash_of_pair (up_to_from commits last) (up_to left last)
up_to_are commits [] last are = tt
up_to_are commits (x ∷ left) last are = by (same_hash x.0 last) refl (up_to_are commits left last are.1)
  where
    here : up_to (chain commits x.0) last ≡ up_to (x ∷ left) last
    here = ap (λ (l : Commits). up_to l last) are.0

    by : (b : Bool) → same_hash x.0 last ≡ b → AreFrom hash_of_pair (up_to_from commits last) (up_to left last) → AreFrom hash_of_pair (up_to_from commits last) (cond b (x ∷ []) (x ∷ up_to left last))
    by true e behind = (here ∙ (rw e refl), tt)
    by false e behind = (here ∙ (rw e refl), behind)

abbrev history_from : Commits → Option Hash → Hash → Commits
history_from commits last hash = history commits hash last

history_are : (commits : Commits) (hash : Hash) (last : Option Hash) → AreLinked commits → AreFrom hash_of_pair (history_from commits last) (history commits hash last)
unfolding history
history_are commits hash None are = chain_from commits hash are
history_are commits hash (Some last) are = up_to_are commits (chain commits hash) last (chain_from commits hash are)

pub history_pages : (commits : Commits) (hash : Hash) (last : Option Hash) (limit : ℕ) → AreLinked commits → 0 < limit
    → pages (take limit) (λ left. option_map (λ x. x.0) (first (drop limit left))) (λ token. history commits token last) (length (history commits hash last) + 1) (history commits hash last) ≡ history commits hash last
history_pages commits hash last limit are some = by_next hash_of_pair (history_from commits last) limit (history commits hash last) some (history_are commits hash last are)

-- ---- commits that come between two pages

more_by : (b : Bool) (c : Commit) (found : Option Commit) (none : Bool) → (is_some found || none) ≡ true → (is_some (cond b (Some c) found) || none) ≡ true
more_by true c found none e = refl
more_by false c found none e = e

known_still : (newer commits : Commits) (hash : Hash) → is_known commits hash ≡ true → is_known (newer ++ commits) hash ≡ true
known_still [] commits hash e = e
known_still (x ∷ newer) commits hash e = more_by (same_hash x.0 hash) x.1 (commit_of (newer ++ commits) hash) _ (known_still newer commits hash e)

pub chain_stays : (newer commits : Commits) (hash : Hash) → AreLinked (newer ++ commits) → is_known commits hash ≡ true → chain (newer ++ commits) hash ≡ chain commits hash
chain_stays [] commits hash are known = refl
chain_stays (x ∷ newer) commits hash are known =
    let other : same_hash x.0 hash ≡ false = apart (newer ++ commits) x.0 hash are.0 (are.1).has_ancestor (known_still newer commits hash known) in
    rw other (chain_stays newer commits hash are.2 known)

pub entries_stay : (newer commits : Commits) (hash : Hash) → AreLinked (newer ++ commits) → is_known commits hash ≡ true → entries (newer ++ commits) hash ≡ entries commits hash
unfolding entries
entries_stay newer commits hash are known = ap map_of (chain_stays newer commits hash are known)

pub history_stays : (newer commits : Commits) (hash : Hash) (last : Option Hash) → AreLinked (newer ++ commits) → is_known commits hash ≡ true → history (newer ++ commits) hash last ≡ history commits hash last
unfolding history
history_stays newer commits hash last are known = ap (λ (l : Commits). until l last) (chain_stays newer commits hash are known)
