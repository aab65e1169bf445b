-- What holds of each entry of a map, and contents that are there.
use Rattle.std.proofs.Common.{◌≡◌, ℕ, List, [], ◌∷◌, Option, Some, None, Bool, true, false, ◌||◌, cond, Ok, fold, is_some, is_none, map, filter, refl, ap}
use Rattle.std.specs.List.{list_all, list_any}
use Rattle.std.specs.declared.cmp.Ordering.{Ordering}
use Rattle.std.specs.declared.cmp.Ordering.TheVariants.{Less, Equal, Greater}
use Rattle.cat_names.specs.Fields.{Key, key_cmp}
use Rattle.cat_names.specs.declared.hash.Hash.{Hash}
use Rattle.cat_tables.specs.ReferenceLaws.{and_true, both_true, is_same}
use Rattle.cat_model.specs.declared.content.Content.{Content}
use Rattle.cat_model.specs.declared.entry.Entry.{Entry}
use Rattle.cat_model.specs.Chain.{entries}
use Rattle.cat_model.specs.KeySets.{key_set, one_placed, with_one}
use Rattle.cat_model.specs.Maps.{Change, Map, after_change, after_changes, placed}
use Rattle.cat_model.specs.Merges.{Planned, all_set, entries_set, needs_set_contents}
use Rattle.cat_model.specs.Moves.{needs_contents}
use Rattle.cat_model.specs.Records.{expired_keys, needs_no_expired}
use Rattle.cat_model.specs.Same.{same_hash}
use Rattle.cat_model.specs.State.{State, content_at}
use Rattle.cat_state.specs.Keeping.{has_contents, is_held}

-- ---- tests of each item of a list

-- a weaker test passes as well
pub all_more : {A : Type 0} (p q : A → Bool) (xs : List A) → ((x : A) → p x ≡ true → q x ≡ true) → list_all p xs ≡ true → list_all q xs ≡ true
all_more p q [] more are = refl
all_more p q (x ∷ xs) more are =
    let both = and_true (p x) (list_all p xs) are in
    both_true _ _ (more x both.0) (all_more p q xs more both.1)

-- what follows from two tests passes where both do
pub all_both : {A : Type 0} (p q r : A → Bool) (xs : List A) → ((x : A) → p x ≡ true → q x ≡ true → r x ≡ true) → list_all p xs ≡ true → list_all q xs ≡ true → list_all r xs ≡ true
all_both p q r [] follows one other = refl
all_both p q r (x ∷ xs) follows one other =
    let first = and_true (p x) (list_all p xs) one in
    let second = and_true (q x) (list_all q xs) other in
    both_true _ _ (follows x first.0 second.0) (all_both p q r xs follows first.1 second.1)

pub or_left : (a b : Bool) → a ≡ true → (a || b) ≡ true
or_left true b e = refl
or_left false b e = absurd cc

pub or_right : (a b : Bool) → b ≡ true → (a || b) ≡ true
or_right true b e = refl
or_right false b e = e

-- each hash of a list is among them
pub all_among : (hashes : List Hash) → list_all (λ hash. list_any (λ other. same_hash other hash) hashes) hashes ≡ true
all_among [] = refl
all_among (first ∷ hashes) =
    both_true _ _ (or_left (same_hash first first) _ (is_same first.bytes first.bytes refl))
    (all_more (λ hash. list_any (λ other. same_hash other hash) hashes) (λ hash. list_any (λ other. same_hash other hash) (first ∷ hashes)) hashes (λ hash e. or_right (same_hash first hash) _ e) (all_among hashes))

-- ---- entries after changes

all_placed : (p : Key × Entry → Bool) (order : Ordering) (change : Change) (x : Key × Entry) (map : Map) → list_all p (entries_set (change ∷ [])) ≡ true → p x ≡ true → list_all p map ≡ true → list_all p (after_change change map) ≡ true → list_all p (placed order change x map (after_change change map)) ≡ true
all_placed p Less change x map set first are after = both_true _ _ first after
all_placed p Equal (key, None) x map set first are after = are
all_placed p Equal (key, Some entry) x map set first are after = both_true _ _ (and_true (p (key, entry)) true set).0 are
all_placed p Greater (key, None) x map set first are after = both_true _ _ first are
all_placed p Greater (key, Some entry) x map set first are after = both_true _ _ (and_true (p (key, entry)) true set).0 (both_true _ _ first are)

each_set : (p : Key × Entry → Bool) (change : Change) (map : Map) → list_all p (entries_set (change ∷ [])) ≡ true → list_all p map ≡ true → list_all p (after_change change map) ≡ true
each_set p (key, None) [] set are = refl
each_set p (key, Some entry) [] set are = set
each_set p change (x ∷ map) set are =
    let both = and_true (p x) (list_all p map) are in
    all_placed p (key_cmp x.0 change.0) change x map set both.0 both.1 (each_set p change map set both.1)

-- what holds of each entry of a map and of each that changes set holds of each after them
pub all_after : (p : Key × Entry → Bool) (changes : List Change) (map : Map) → list_all p (entries_set changes) ≡ true → list_all p map ≡ true → list_all p (after_changes changes map) ≡ true
all_after p [] map set are = are
all_after p ((key, None) ∷ changes) map set are = all_after p changes (after_change (key, None) map) set (each_set p (key, None) map refl are)
all_after p ((key, Some entry) ∷ changes) map set are =
    let both = and_true (p (key, entry)) (list_all p (entries_set changes)) set in
    all_after p changes (after_change (key, Some entry) map) both.1 (each_set p (key, Some entry) map (both_true _ _ both.0 refl) are)

-- entries whose contents are there, or whose hashes are among others, are so after changes that set such
pub held_after : (present : List (Hash × Content)) (others : List Hash) (changes : List Change) (map : Map) → has_contents present map ≡ true → list_all (λ x. list_any (λ other. same_hash other x.1.hash) others) (entries_set changes) ≡ true
    → list_all (λ x. is_held present others x.1.hash) (after_changes changes map) ≡ true
held_after present others changes map there set =
    let held : Key × Entry → Bool = λ x. is_held present others x.1.hash in
    all_after held changes map
    (all_more (λ x. list_any (λ other. same_hash other x.1.hash) others) held (entries_set changes) (λ x e. or_right (is_some (content_at present x.1.hash)) _ e) set)
    (all_more (λ x. is_some (content_at present x.1.hash)) held map (λ x e. or_left _ (list_any (λ other. same_hash other x.1.hash) others) e) there)

-- ---- no content is missing

none_by : (found : Option Content) (x : Key × Entry) (left : Map) → is_some found ≡ true → left ≡ [] → cond (is_none found) (x ∷ left) left ≡ []
none_by None x left there e = absurd cc
none_by (Some content) x left there e = e

none_missing : (present : List (Hash × Content)) (map : Map) → has_contents present map ≡ true → filter (λ x. is_none (content_at present x.1.hash)) map ≡ []
none_missing present [] there = refl
none_missing present (x ∷ map) there =
    let both = and_true (is_some (content_at present x.1.hash)) (has_contents present map) there in
    none_by (content_at present x.1.hash) x _ both.0 (none_missing present map both.1)

-- no keys of a map whose contents are there
pub none_expired : (state : State) (entries : Map) → has_contents state.present entries ≡ true → expired_keys state entries ≡ []
unfolding expired_keys
none_expired state entries there = ap (map (λ (x : Key × Entry). x.0)) (none_missing state.present entries there)

-- so the commit that it is at passes
pub contents_pass : (state : State) (hash : Hash) → has_contents state.present (entries state.commits hash) ≡ true → needs_contents state hash ≡ Ok tt
unfolding needs_contents
contents_pass state hash there = ap (λ (keys : List Key). needs_no_expired keys state.place) (none_expired state (entries state.commits hash) there)

-- ---- contents that were not missing

there_by : (found : Option Content) (x : Key × Entry) (left : Map) → cond (is_none found) (x ∷ left) left ≡ [] → (is_some found ≡ true) × (left ≡ [])
there_by None x left e = absurd cc
there_by (Some content) x left e = (refl, e)

missing_none : (present : List (Hash × Content)) (map : Map) → filter (λ x. is_none (content_at present x.1.hash)) map ≡ [] → has_contents present map ≡ true
missing_none present [] none = refl
missing_none present (x ∷ map) none =
    let both = there_by (content_at present x.1.hash) x _ none in
    both_true _ _ both.0 (missing_none present map both.1)

no_pairs : (xs : Map) → map (λ x. x.0) xs ≡ [] → xs ≡ []
no_pairs [] e = refl
no_pairs (x ∷ xs) e = absurd cc

-- the contents of a map are there where none of its keys is expired
pub unexpired_there : (state : State) (entries : Map) → expired_keys state entries ≡ [] → has_contents state.present entries ≡ true
unfolding expired_keys
unexpired_there state entries none = missing_none state.present entries (no_pairs _ none)

none_refused : (keys : List Key) (place : ℕ) → needs_no_expired keys place ≡ Ok tt → keys ≡ []
none_refused [] place passes = refl
none_refused (key ∷ keys) place passes = absurd cc

-- so those at a commit that passes
pub passed_there : (state : State) (hash : Hash) → needs_contents state hash ≡ Ok tt → has_contents state.present (entries state.commits hash) ≡ true
unfolding needs_contents
passed_there state hash passes = unexpired_there state (entries state.commits hash) (none_refused (expired_keys state (entries state.commits hash)) state.place passes)

placed_stays : (order : Ordering) (x first : Key) (keys added more : List Key) → ((key : Key) (keys : List Key) → fold (with_one key_cmp) (key ∷ keys) more ≡ [] → ⊥) → fold (with_one key_cmp) (one_placed order x first keys added) more ≡ [] → ⊥
placed_stays Less x first keys added more stays e = stays x (first ∷ keys) e
placed_stays Equal x first keys added more stays e = stays first keys e
placed_stays Greater x first keys added more stays e = stays first added e

key_stays : (more : List Key) (first : Key) (keys : List Key) → fold (with_one key_cmp) (first ∷ keys) more ≡ [] → ⊥
key_stays [] first keys e = cc
key_stays (x ∷ more) first keys e = placed_stays (key_cmp x first) x first keys (with_one key_cmp keys x) more (key_stays more) e

set_empty : (keys : List Key) → key_set keys ≡ [] → keys ≡ []
set_empty [] e = refl
set_empty (key ∷ keys) e = absurd (key_stays keys key [] e)

-- and those that plans set
pub set_there : (state : State) (planned : List Planned) (opened : ℕ) → needs_set_contents state planned opened ≡ Ok tt → has_contents state.present (all_set planned) ≡ true
set_there state planned opened passes =
    unexpired_there state (all_set planned) (set_empty (expired_keys state (all_set planned)) (none_refused (key_set (expired_keys state (all_set planned))) opened passes))
