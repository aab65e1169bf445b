-- Commits below others that were added: what is said of a hash that is known among them stays.
use Rattle.std.proofs.Common.{◌≡◌, List, [], ◌∷◌, ◌++◌, Option, Some, None, Bool, true, false, cond, ◌||◌, ◌&&◌, is_some, map, refl, sym, ap, subst, ◌∙◌}
use Rattle.std.specs.Prelude.{filter, nat_lt, nat_eq}
use Rattle.std.specs.List.{list_all}
use Rattle.std.specs.Option.{option_map_or}
use Rattle.std.proofs.lemmas.Bool.{cond-false}
use Rattle.std.proofs.lemmas.List.Folds.{list_all-append}
use Rattle.std.proofs.lemmas.Option.{none-some, same_Some}
use Rattle.sha2.specs.Sha256.{sha256}
use Rattle.cat_keymap.specs.KeyOrder.{both_true, and_true}
use Rattle.cat_names.specs.declared.hash.Hash.{Hash}
use Rattle.cat_model.specs.declared.commit.Commit.{Commit}
use Rattle.cat_model.specs.Base.{ancestors, base, common_ancestors, hash_before, is_among, is_nearer, nearest, nearest_of}
use Rattle.cat_model.specs.Chain.{Commits, chain, commit_of, entries, generation, map_of, on_chain}
use Rattle.cat_model.specs.Later.{Adds}
use Rattle.cat_model.specs.Same.{same_hash}
use Rattle.cat_model.specs.State.{no_ancestor}
use Rattle.cat_model.specs.Transplants.{change_made, commits_at}
use Rattle.cat_graph.specs.Linked.{AreLinked, is_known, is_merge_known}
use Rattle.cat_graph.specs.GraphLaws.{apart, found_is_known}
use Rattle.cat_state.specs.HeldLaws.{all_more}

-- ---- hashes

known_by : (b : Bool) (c : Commit) (found : Option Commit) (none : Bool) → (is_some found || none) ≡ true → (is_some (cond b (Some c) found) || none) ≡ true
known_by true c found none e = refl
known_by false c found none e = e

known_above : (x : Hash × Commit) (older : Commits) (hash : Hash) → is_known older hash ≡ true → is_known (x ∷ older) hash ≡ true
known_above x older hash e = known_by (same_hash x.0 hash) x.1 (commit_of older hash) (same_hash (no_ancestor sha256) hash) e

known_after : (front older : Commits) (hash : Hash) → is_known older hash ≡ true → is_known (front ++ older) hash ≡ true
known_after [] older hash e = e
known_after (x ∷ front) older hash e = known_above x (front ++ older) hash (known_after front older hash e)

-- a hash stays known
pub known_later : (older newer : Commits) (hash : Hash) → Adds older newer → is_known older hash ≡ true → is_known newer hash ≡ true
known_later older newer hash adds known = subst (λ (l : Commits). is_known l hash ≡ true) (sym adds.1) (known_after adds.0 older hash known)

-- and so does a merge's other parent
pub merge_known_later : (older newer : Commits) (hash : Option Hash) → Adds older newer → is_merge_known older hash ≡ true → is_merge_known newer hash ≡ true
merge_known_later older newer None adds known = refl
merge_known_later older newer (Some hash) adds known = known_later older newer hash adds known

linked_below : (front older : Commits) → AreLinked (front ++ older) → AreLinked older
linked_below [] older are = are
linked_below (x ∷ front) older are = linked_below front older are.2

-- commits below others that are linked are so
pub linked_before : (older newer : Commits) → AreLinked newer → Adds older newer → AreLinked older
linked_before older newer are adds = linked_below adds.0 older (subst AreLinked adds.1 are)

-- ---- what is said of a known hash

-- the newest commit tells nothing of other hashes
abbrev IsOfOlder : {A : Type 0} → (Commits → Hash → A) → Type 0
IsOfOlder f = (x : Hash × Commit) (older : Commits) (hash : Hash) → same_hash x.0 hash ≡ false → f (x ∷ older) hash ≡ f older hash

same_below : {A : Type 0} (f : Commits → Hash → A) → IsOfOlder f → (front older : Commits) (hash : Hash) → AreLinked (front ++ older) → is_known older hash ≡ true → f (front ++ older) hash ≡ f older hash
same_below f of [] older hash are known = refl
same_below f of (x ∷ front) older hash are known =
    let other = apart (front ++ older) x.0 hash are.0 (are.1).has_ancestor (known_after front older hash known) in
    of x (front ++ older) hash other ∙ same_below f of front older hash are.2 known

stays : {A : Type 0} (f : Commits → Hash → A) → IsOfOlder f → (older newer : Commits) (hash : Hash) → AreLinked newer → Adds older newer → is_known older hash ≡ true → f newer hash ≡ f older hash
stays f of older newer hash are adds known = ap (λ (l : Commits). f l hash) adds.1 ∙ same_below f of adds.0 older hash (subst AreLinked adds.1 are) known

commit_below : IsOfOlder commit_of
commit_below x older hash e = rw e refl

generation_below : IsOfOlder generation
generation_below x older hash e = rw e refl

chain_below : IsOfOlder chain
chain_below x older hash e = rw e refl

ancestors_below : IsOfOlder ancestors
ancestors_below x older hash e = rw e refl

on_chain_below : (hash : Hash) → IsOfOlder (λ commits head. on_chain commits head hash)
on_chain_below hash x older head e = rw e refl

pub commit_later : (older newer : Commits) (hash : Hash) → AreLinked newer → Adds older newer → is_known older hash ≡ true → commit_of newer hash ≡ commit_of older hash
commit_later = stays commit_of commit_below

pub generation_later : (older newer : Commits) (hash : Hash) → AreLinked newer → Adds older newer → is_known older hash ≡ true → generation newer hash ≡ generation older hash
generation_later = stays generation generation_below

pub chain_later : (older newer : Commits) (hash : Hash) → AreLinked newer → Adds older newer → is_known older hash ≡ true → chain newer hash ≡ chain older hash
chain_later = stays chain chain_below

pub on_chain_later : (older newer : Commits) (head hash : Hash) → AreLinked newer → Adds older newer → is_known older head ≡ true → on_chain newer head hash ≡ on_chain older head hash
on_chain_later older newer head hash = stays (λ commits head. on_chain commits head hash) (on_chain_below hash) older newer head

pub ancestors_later : (older newer : Commits) (hash : Hash) → AreLinked newer → Adds older newer → is_known older hash ≡ true → ancestors newer hash ≡ ancestors older hash
ancestors_later = stays ancestors ancestors_below

-- the map at a known hash stays
pub entries_later : (older newer : Commits) (hash : Hash) → AreLinked newer → Adds older newer → is_known older hash ≡ true → entries newer hash ≡ entries older hash
unfolding entries
entries_later older newer hash are adds known = ap map_of (chain_later older newer hash are adds known)

-- ---- the merge base

either_passes : {A : Type 0} (q : A → Bool) (b : Bool) (xs ys : List A) → (b ≡ true → list_all q xs ≡ true) → (b ≡ false → list_all q ys ≡ true) → list_all q (cond b xs ys) ≡ true
either_passes q true xs ys f g = f refl
either_passes q false xs ys f g = g refl

joined_pass : {A : Type 0} (q : A → Bool) (xs ys : List A) → list_all q xs ≡ true → list_all q ys ≡ true → list_all q (xs ++ ys) ≡ true
joined_pass q xs ys e f = list_all-append q xs ys ∙ both_true _ _ e f

kept_pass : {A : Type 0} (q keeps : A → Bool) (xs : List A) → list_all q xs ≡ true → list_all q (filter keeps xs) ≡ true
kept_pass q keeps [] e = refl
kept_pass q keeps (x ∷ xs) e =
    let both = and_true (q x) (list_all q xs) e in
    let rest = kept_pass q keeps xs both.1 in
    either_passes q (keeps x) (x ∷ filter keeps xs) (filter keeps xs) (λ _. both_true _ _ both.0 rest) (λ _. rest)

merge_ancestors : (older : Commits) (merge_parent : Option Hash) → ((hash : Hash) → is_known older hash ≡ true → list_all (is_known older) (ancestors older hash) ≡ true) → is_merge_known older merge_parent ≡ true
    → list_all (is_known older) (option_map_or (ancestors older) merge_parent []) ≡ true
merge_ancestors older None each known = refl
merge_ancestors older (Some hash) each known = each hash known

-- each ancestor of a known hash is known
pub ancestors_known : (commits : Commits) (hash : Hash) → AreLinked commits → is_known commits hash ≡ true → list_all (is_known commits) (ancestors commits hash) ≡ true
ancestors_known [] hash are known = both_true _ _ known refl
ancestors_known (x ∷ older) hash are known =
    let each : (h : Hash) → is_known older h ≡ true → list_all (is_known older) (ancestors older h) ≡ true = λ h k. ancestors_known older h are.2 k in
    let above : (hashes : List Hash) → list_all (is_known older) hashes ≡ true → list_all (is_known (x ∷ older)) hashes ≡ true = λ hashes. all_more (is_known older) (is_known (x ∷ older)) hashes (known_above x older) in
    let parents = ancestors older (x.1).parent in
    let others = option_map_or (ancestors older) (x.1).merge_parent [] in
    either_passes (is_known (x ∷ older)) (same_hash x.0 hash) (hash ∷ (parents ++ others)) (ancestors older hash)
    (λ same. both_true _ _ known (above (parents ++ others) (joined_pass (is_known older) parents others (each (x.1).parent (are.1).parent) (merge_ancestors older (x.1).merge_parent each (are.1).merge_parent))))
    (λ other. above (ancestors older hash) (each hash (subst (λ (found : Option Commit). (is_some found || same_hash (no_ancestor sha256) hash) ≡ true) (cond-false _ (Some x.1) (commit_of older hash) other) known)))

one_known : (commits : Commits) (b : Bool) (hash best : Hash) → is_known commits hash ≡ true → is_known commits best ≡ true → is_known commits (cond b hash best) ≡ true
one_known commits true hash best e f = e
one_known commits false hash best e f = f

nearest_known : (commits : Commits) (best : Hash) (hashes : List Hash) → is_known commits best ≡ true → list_all (is_known commits) hashes ≡ true → is_known commits (nearest commits best hashes) ≡ true
nearest_known commits best [] known all = known
nearest_known commits best (hash ∷ hashes) known all =
    let both = and_true (is_known commits hash) (list_all (is_known commits) hashes) all in
    let b = is_nearer commits hash best in
    nearest_known commits (cond b hash best) hashes (one_known commits b hash best both.0 known) both.1

common_known : (commits : Commits) (a b : Hash) → AreLinked commits → is_known commits a ≡ true → list_all (is_known commits) (common_ancestors commits a b) ≡ true
unfolding common_ancestors
common_known commits a b are known = kept_pass (is_known commits) (is_among (ancestors commits b)) (ancestors commits a) (ancestors_known commits a are known)

nearest_of_known : (commits : Commits) (other : Hash) (hashes : List Hash) → is_known commits other ≡ true → list_all (is_known commits) hashes ≡ true → is_known commits (nearest_of commits other hashes) ≡ true
nearest_of_known commits other [] known all = known
nearest_of_known commits other (hash ∷ hashes) known all =
    let both = and_true (is_known commits hash) (list_all (is_known commits) hashes) all in
    nearest_known commits hash hashes both.0 both.1

-- the merge base of known hashes is known
pub base_known : (commits : Commits) (a b : Hash) → AreLinked commits → is_known commits a ≡ true → is_known commits (base commits a b) ≡ true
unfolding base
base_known commits a b are known = nearest_of_known commits a (common_ancestors commits a b) known (common_known commits a b are known)

pub common_later : (older newer : Commits) (a b : Hash) → AreLinked newer → Adds older newer → is_known older a ≡ true → is_known older b ≡ true → common_ancestors newer a b ≡ common_ancestors older a b
unfolding common_ancestors
common_later older newer a b are adds first second =
    let of_a = ancestors_later older newer a are adds first in
    let of_b = ancestors_later older newer b are adds second in
    λ i. filter (is_among (of_b i)) (of_a i)

nearer_later : (older newer : Commits) (a b : Hash) → AreLinked newer → Adds older newer → is_known older a ≡ true → is_known older b ≡ true → is_nearer newer a b ≡ is_nearer older a b
unfolding is_nearer
nearer_later older newer a b are adds first second =
    let of_a = generation_later older newer a are adds first in
    let of_b = generation_later older newer b are adds second in
    λ i. nat_lt (of_b i) (of_a i) || (nat_eq (of_a i) (of_b i) && hash_before a b)

nearest_later : (older newer : Commits) (best : Hash) (hashes : List Hash) → AreLinked newer → Adds older newer → is_known older best ≡ true → list_all (is_known older) hashes ≡ true → nearest newer best hashes ≡ nearest older best hashes
nearest_later older newer best [] are adds known all = refl
nearest_later older newer best (hash ∷ hashes) are adds known all =
    let both = and_true (is_known older hash) (list_all (is_known older) hashes) all in
    let b = is_nearer older hash best in
    ap (λ (nearer : Bool). nearest newer (cond nearer hash best) hashes) (nearer_later older newer hash best are adds both.0 known)
    ∙ nearest_later older newer (cond b hash best) hashes are adds (one_known older b hash best both.0 known) both.1

nearest_of_later : (older newer : Commits) (other : Hash) (hashes : List Hash) → AreLinked newer → Adds older newer → list_all (is_known older) hashes ≡ true → nearest_of newer other hashes ≡ nearest_of older other hashes
nearest_of_later older newer other [] are adds all = refl
nearest_of_later older newer other (hash ∷ hashes) are adds all =
    let both = and_true (is_known older hash) (list_all (is_known older) hashes) all in
    nearest_later older newer hash hashes are adds both.0 both.1

-- the merge base of known hashes stays
pub base_later : (older newer : Commits) (a b : Hash) → AreLinked newer → Adds older newer → is_known older a ≡ true → is_known older b ≡ true → base newer a b ≡ base older a b
unfolding base
base_later older newer a b are adds first second =
    ap (λ (hashes : List Hash). nearest_of newer a hashes) (common_later older newer a b are adds first second)
    ∙ nearest_of_later older newer a (common_ancestors older a b) are adds (common_known older a b (linked_before older newer are adds) first)

-- ---- commits of hashes

parent_by : (b : Bool) (x : Hash × Commit) (older : Commits) (at : Hash) (c : Commit) → is_known older (x.1).parent ≡ true → (commit_of older at ≡ Some c → is_known older c.parent ≡ true)
    → cond b (Some x.1) (commit_of older at) ≡ Some c → is_known older c.parent ≡ true
parent_by true x older at c parent more e = subst (λ (d : Commit). is_known older d.parent ≡ true) (same_Some x.1 c e) parent
parent_by false x older at c parent more e = more e

-- the parent of a commit is known
pub parent_known : (commits : Commits) (at : Hash) (c : Commit) → AreLinked commits → commit_of commits at ≡ Some c → is_known commits c.parent ≡ true
parent_known [] at c are e = absurd (none-some c e)
parent_known (x ∷ older) at c are e =
    known_above x older c.parent (parent_by (same_hash x.0 at) x older at c (are.1).parent (parent_known older at c are.2) e)

-- the commits of known hashes stay
pub commits_later : (older newer : Commits) (hashes : List Hash) → AreLinked newer → Adds older newer → list_all (is_known older) hashes ≡ true → commits_at newer hashes ≡ commits_at older hashes
commits_later older newer [] are adds known = refl
commits_later older newer (hash ∷ hashes) are adds known =
    let both = and_true (is_known older hash) (list_all (is_known older) hashes) known in
    let first = commit_later older newer hash are adds both.0 in
    let others = commits_later older newer hashes are adds both.1 in
    λ i. option_map_or (λ (c : Commit). (hash, c) ∷ []) (first i) [] ++ others i

change_later : (older newer : Commits) (hash : Hash) (c : Commit) → AreLinked newer → Adds older newer → commit_of older hash ≡ Some c → change_made newer (hash, c) ≡ change_made older (hash, c)
change_later older newer hash c are adds e =
    let before = entries_later older newer c.parent are adds (parent_known older hash c (linked_before older newer are adds) e) in
    let own = entries_later older newer hash are adds (found_is_known older hash c e) in
    λ i. (before i, own i)

changes_by : (older newer : Commits) (hash : Hash) (found : Option Commit) (rest : Commits) → AreLinked newer → Adds older newer → commit_of older hash ≡ found → map (change_made newer) rest ≡ map (change_made older) rest
    → map (change_made newer) (option_map_or (λ (c : Commit). (hash, c) ∷ []) found [] ++ rest) ≡ map (change_made older) (option_map_or (λ (c : Commit). (hash, c) ∷ []) found [] ++ rest)
changes_by older newer hash None rest are adds e others = others
changes_by older newer hash (Some c) rest are adds e others =
    let first = change_later older newer hash c are adds e in
    λ i. first i ∷ others i

-- what commits changed stays
pub changes_later : (older newer : Commits) (hashes : List Hash) → AreLinked newer → Adds older newer → map (change_made newer) (commits_at older hashes) ≡ map (change_made older) (commits_at older hashes)
changes_later older newer [] are adds = refl
changes_later older newer (hash ∷ hashes) are adds = changes_by older newer hash (commit_of older hash) (commits_at older hashes) are adds refl (changes_later older newer hashes are adds)
