-- The keys that plans set and whose contents aren't held, as a set.
use Rattle.std.proofs.Common.{◌≡◌, ℕ, ◌+◌, ◌<◌, ◌≤◌, List, [], ◌∷◌, ◌++◌, length, get_or, drop, map, filter, None, Some, Bool, is_none, fold, refl, sym, ap, ◌∙◌}
use Rattle.std.specs.BTreeSet.{insert_key}
use Rattle.std.specs.Ordering.{match_ordering}
use Rattle.std.specs.declared.cmp.Ordering.{Ordering}
use Rattle.std.specs.declared.cmp.Ordering.TheVariants.{Less, Equal, Greater}
use Rattle.std.proofs.lemmas.List.{drop_all, drop_more, map-append}
use Rattle.std.proofs.lemmas.List.Elements.{filter-append}
use Rattle.std.proofs.lemmas.List.Sums.{fold-append}
use Rattle.cat_merge.specs.declared.plan.Planned.{Planned}
use Rattle.cat_merge.specs.Planned.{as_planned}
use Rattle.cat_names.specs.Fields.{Key, key_cmp}
use Rattle.cat_model.specs.declared.entry.Entry.{Entry}
use Rattle.cat_model.specs.KeySets.{one_placed, with_one}
use Rattle.cat_model.specs.Maps.{Map, Change}
use Rattle.cat_model.specs.Merges.{all_set, entries_set}
use Rattle.cat_model.specs.Records.{expired_keys}
use Rattle.cat_model.specs.State.{State, content_at}

-- ---- one key more

placed_is : (o : Ordering) (x first : Key) (keys one other : List Key) → one ≡ other → match_ordering o (x ∷ first ∷ keys) (first ∷ keys) (first ∷ one) ≡ one_placed o x first keys other
placed_is Less x first keys one other e = refl
placed_is Equal x first keys one other e = refl
placed_is Greater x first keys one other e = ap (λ (l : List Key). first ∷ l) e

-- a set of keys with one inserted
pub insert_is : (keys : List Key) (x : Key) → insert_key key_cmp keys x ≡ with_one key_cmp keys x
insert_is [] x = refl
insert_is (first ∷ keys) x = placed_is (key_cmp x first) x first keys (insert_key key_cmp keys x) (with_one key_cmp keys x) (insert_is keys x)

-- ---- the keys of one part after those of another

abbrev is_lacking : State → Key × Entry → Bool
is_lacking state x = is_none (content_at state.present x.1.hash)

abbrev lacking : State → Map → List Key
lacking state set = map (λ x. x.0) (filter (is_lacking state) set)

lacking_append : (state : State) (xs ys : Map) → lacking state (xs ++ ys) ≡ lacking state xs ++ lacking state ys
lacking_append state xs ys = ap (map (λ (x : Key × Entry). x.0)) (filter-append (is_lacking state) xs ys) ∙ map-append (λ (x : Key × Entry). x.0) (filter (is_lacking state) xs) (filter (is_lacking state) ys)

-- keys with the expired ones of a map
abbrev pub WithExpired : State → List Key → Map → List Key
WithExpired state keys set = fold (with_one key_cmp) keys (expired_keys state set)

with_both : (state : State) (before after : List Key) (xs ys : Map) → after ≡ WithExpired state before xs → WithExpired state after ys ≡ WithExpired state before (xs ++ ys)
unfolding expired_keys
with_both state before after xs ys e =
    ap (λ (l : List Key). fold (with_one key_cmp) l (lacking state ys)) e
    ∙ sym (fold-append (with_one key_cmp) before (lacking state xs) (lacking state ys)) ∙ ap (fold (with_one key_cmp) before) (sym (lacking_append state xs ys))

set_append : (xs ys : List Change) → entries_set (xs ++ ys) ≡ entries_set xs ++ entries_set ys
set_append [] ys = refl
set_append ((key, None) ∷ xs) ys = set_append xs ys
set_append ((key, Some entry) ∷ xs) ys = ap (λ (l : Map). (key, entry) ∷ l) (set_append xs ys)

-- the next change's key is added
pub next_change : (state : State) (ops : List Change) (x : Change) (i : ℕ) (before after all : List Key) → i < length ops → x ≡ get_or ops i x → after ≡ WithExpired state before (entries_set (x ∷ []))
    → WithExpired state before (entries_set (drop i ops)) ≡ all → WithExpired state after (entries_set (drop (i + 1) ops)) ≡ all
next_change state ops x i before after all lt is added left =
    let d : drop i ops ≡ x ∷ drop (i + 1) ops = drop_more ops i x lt ∙ ap (λ (y : Change). y ∷ drop (i + 1) ops) (sym is) in
    with_both state before after (entries_set (x ∷ [])) (entries_set (drop (i + 1) ops)) added
    ∙ ap (WithExpired state before) (sym (set_append (x ∷ []) (drop (i + 1) ops)) ∙ ap entries_set (sym d)) ∙ left

-- the next plan's keys are added
pub next_plan : (state : State) (planned : List Planned) (p : Planned) (i : ℕ) (before after all : List Key) → i < length planned → p ≡ get_or planned i p → after ≡ WithExpired state before (entries_set (p.plan).ops)
    → WithExpired state before (all_set (map as_planned (drop i planned))) ≡ all → WithExpired state after (all_set (map as_planned (drop (i + 1) planned))) ≡ all
next_plan state planned p i before after all lt is added left =
    let d : drop i planned ≡ p ∷ drop (i + 1) planned = drop_more planned i p lt ∙ ap (λ (q : Planned). q ∷ drop (i + 1) planned) (sym is) in
    with_both state before after (entries_set (p.plan).ops) (all_set (map as_planned (drop (i + 1) planned))) added
    ∙ ap (λ (l : List Planned). WithExpired state before (all_set (map as_planned l))) (sym d) ∙ left

-- ---- none is left

pub none_left : (state : State) (ops : List Change) (i : ℕ) (keys all : List Key) → length ops ≤ i → WithExpired state keys (entries_set (drop i ops)) ≡ all → keys ≡ all
unfolding expired_keys
none_left state ops i keys all past left = sym (ap (λ (l : List Change). WithExpired state keys (entries_set l)) (drop_all i ops past)) ∙ left

pub no_plan_left : (state : State) (planned : List Planned) (i : ℕ) (keys all : List Key) → length planned ≤ i → WithExpired state keys (all_set (map as_planned (drop i planned))) ≡ all → keys ≡ all
unfolding expired_keys
no_plan_left state planned i keys all past left = sym (ap (λ (l : List Planned). WithExpired state keys (all_set (map as_planned l))) (drop_all i planned past)) ∙ left
