-- What is found among named references after a change, and what stays so of each of them.
use Rattle.std.proofs.Common.{◌≡◌, ℕ, List, [], ◌∷◌, Option, Some, None, Bool, true, false, cond, ◌&&◌, map, refl, sym, ap, ◌∙◌}
use Rattle.std.proofs.lemmas.Option.{none-some}
use Rattle.std.specs.Cmp.Lexicographic.{bytes_decides, texts_ties, nat_list_cmp_total}
use Rattle.std.specs.List.{list_all, filter}
use Rattle.std.specs.Option.{option_map}
use Rattle.std.specs.Ordering.{is_lt, is_eq, ordering_reverse}
use Rattle.std.specs.Str.{bytes_eq}
use Rattle.std.specs.declared.cmp.Ordering.{Ordering}
use Rattle.std.specs.declared.cmp.Ordering.TheVariants.{Less, Equal, Greater}
use Rattle.cat_names.specs.declared.hash.Hash.{Hash}
use Rattle.cat_model.specs.declared.reference.Reference.{Reference}
use Rattle.cat_model.specs.State.{reference_of, with_reference, without_reference, moved_reference}
use Rattle.cat_tables.specs.References.{is_below, heads_pass}

-- ---- tests

pub either : {A : Type 0} (P : A → Type 0) (b : Bool) (x y : A) → (b ≡ true → P x) → (b ≡ false → P y) → P (cond b x y)
either P true x y f g = f refl
either P false x y f g = g refl

pub split : {P : Type 0} (b : Bool) → (b ≡ true → P) → (b ≡ false → P) → P
split true f g = f refl
split false f g = g refl

pub both_true : (a b : Bool) → a ≡ true → b ≡ true → (a && b) ≡ true
both_true true b h e = e
both_true false b h e = absurd cc

pub and_true : (a b : Bool) → (a && b) ≡ true → (a ≡ true) × (b ≡ true)
and_true true b e = (refl, e)
and_true false b e = absurd cc

-- ---- the order of names

less_is : (o : Ordering) → is_lt o ≡ true → o ≡ Less
less_is Less e = refl
less_is Equal e = absurd cc
less_is Greater e = absurd cc

turned : (o : Ordering) → is_lt o ≡ false → is_eq o ≡ false → ordering_reverse o ≡ Less
turned Less e f = absurd cc
turned Equal e f = absurd cc
turned Greater e f = refl

pub same_name : (a b : List ℕ) → bytes_eq a b ≡ true → a ≡ b
same_name a b e = (bytes_decides a b).0 e

pub is_same : (a b : List ℕ) → a ≡ b → bytes_eq a b ≡ true
is_same a b e = (bytes_decides a b).1 e

pub below_trans : (a b c : List ℕ) → is_below a b ≡ true → is_below b c ≡ true → is_below a c ≡ true
below_trans a b c e f = ap is_lt (nat_list_cmp_total.trans a b c (less_is _ e) (less_is _ f))

-- a name below another is not the same, nor above it
pub other_name : (a b : List ℕ) → is_below a b ≡ true → bytes_eq a b ≡ false
other_name a b e = texts_ties a b ∙ ap is_eq (less_is _ e)

pub not_above : (a b : List ℕ) → is_below a b ≡ true → is_below b a ≡ false
not_above a b e = ap is_lt (nat_list_cmp_total.antisymm b a ∙ ap ordering_reverse (less_is _ e))

pub other_name_above : (a b : List ℕ) → is_below a b ≡ true → bytes_eq b a ≡ false
other_name_above a b e = texts_ties b a ∙ ap is_eq (nat_list_cmp_total.antisymm b a ∙ ap ordering_reverse (less_is _ e))

-- of two names that differ one is below the other
pub is_above : (a b : List ℕ) → is_below a b ≡ false → bytes_eq a b ≡ false → is_below b a ≡ true
is_above a b e f = ap is_lt (nat_list_cmp_total.antisymm b a ∙ turned _ e (sym (texts_ties a b) ∙ f))

-- ---- what each reference passes

pub all_with : (p : Reference → Bool) (references : List Reference) (reference : Reference) → p reference ≡ true → list_all p references ≡ true → list_all p (with_reference references reference) ≡ true
all_with p [] reference h g = both_true _ _ h refl
all_with p (x ∷ xs) reference h g =
    let a = and_true (p x) (list_all p xs) g in
    either (λ (l : List Reference). list_all p l ≡ true) (is_below reference.name x.name) _ _ (λ e. both_true _ _ h g) (λ e. both_true _ _ a.0 (all_with p xs reference h a.1))

pub all_kept : (p q : Reference → Bool) (references : List Reference) → list_all p references ≡ true → list_all p (filter q references) ≡ true
all_kept p q [] g = refl
all_kept p q (x ∷ xs) g =
    let a = and_true (p x) (list_all p xs) g in
    either (λ (l : List Reference). list_all p l ≡ true) (q x) _ _ (λ e. both_true _ _ a.0 (all_kept p q xs a.1)) (λ e. all_kept p q xs a.1)

pub all_without : (p : Reference → Bool) (references : List Reference) (name : List ℕ) → list_all p references ≡ true → list_all p (without_reference references name) ≡ true
all_without p references name g = all_kept p _ references g

pub all_moved : (p : Reference → Bool) (references : List Reference) (reference : Reference) → p reference ≡ true → list_all p references ≡ true → list_all p (moved_reference references reference) ≡ true
all_moved p [] reference h g = refl
all_moved p (x ∷ xs) reference h g =
    let a = and_true (p x) (list_all p xs) g in
    both_true _ _ (either (λ (r : Reference). p r ≡ true) (bytes_eq x.name reference.name) _ _ (λ e. h) (λ e. a.0)) (all_moved p xs reference h a.1)

-- ---- heads

pub heads_kept_with : (pass : Hash → Bool) (references : List Reference) (reference : Reference) → pass reference.head ≡ true → heads_pass pass references ≡ true → heads_pass pass (with_reference references reference) ≡ true
heads_kept_with pass = all_with (λ r. pass r.head)

pub heads_kept_without : (pass : Hash → Bool) (references : List Reference) (name : List ℕ) → heads_pass pass references ≡ true → heads_pass pass (without_reference references name) ≡ true
heads_kept_without pass = all_without (λ r. pass r.head)

pub heads_kept_moved : (pass : Hash → Bool) (references : List Reference) (reference : Reference) → pass reference.head ≡ true → heads_pass pass references ≡ true → heads_pass pass (moved_reference references reference) ≡ true
heads_kept_moved pass = all_moved (λ r. pass r.head)

-- ---- names

pub moved_name : (x reference : Reference) → (cond (bytes_eq x.name reference.name) reference x).name ≡ x.name
moved_name x reference = either (λ (r : Reference). r.name ≡ x.name) (bytes_eq x.name reference.name) _ _ (λ e. sym (same_name _ _ e)) (λ e. refl)

-- a move leaves the names as they were
pub names_moved : (references : List Reference) (reference : Reference) → map (λ r. r.name) (moved_reference references reference) ≡ map (λ r. r.name) references
names_moved [] reference = refl
names_moved (x ∷ xs) reference = rw (moved_name x reference, names_moved xs reference) refl

-- ---- look-ups

pub absent_parts : (x : Reference) (xs : List Reference) (name : List ℕ) → reference_of (x ∷ xs) name ≡ None → (bytes_eq x.name name ≡ false) × (reference_of xs name ≡ None)
absent_parts x xs name = none_of (bytes_eq x.name name) x (reference_of xs name)
  where
    none_of : (b : Bool) (x : Reference) (rest : Option Reference) → cond b (Some x) rest ≡ None → (b ≡ false) × (rest ≡ None)
    none_of true x rest e = absurd (none-some x (sym e))
    none_of false x rest e = (refl, e)

-- two names that are the same as a third are the same
never_both : (a b name : List ℕ) → bytes_eq a b ≡ false → bytes_eq a name ≡ true → bytes_eq b name ≡ true → ⊥
never_both a b name other e f = let same : bytes_eq a b ≡ true = is_same a b (same_name a name e ∙ sym (same_name b name f)) in absurd cc

exchanged : (b c : Bool) (x y rest : Option Reference) → (b ≡ true → c ≡ true → ⊥) → cond b x (cond c y rest) ≡ cond c y (cond b x rest)
exchanged true true x y rest never = absurd (never refl refl)
exchanged true false x y rest never = refl
exchanged false c x y rest never = refl

-- after an insert the new one is found under its name, and the others as before
pub found_with : (references : List Reference) (reference : Reference) (name : List ℕ) → reference_of references reference.name ≡ None
    → reference_of (with_reference references reference) name ≡ cond (bytes_eq reference.name name) (Some reference) (reference_of references name)
found_with [] reference name absent = refl
found_with (x ∷ xs) reference name absent =
    let other = absent_parts x xs reference.name absent in
    either (λ (l : List Reference). reference_of l name ≡ cond (bytes_eq reference.name name) (Some reference) (reference_of (x ∷ xs) name)) (is_below reference.name x.name) _ _
    (λ e. refl)
    (λ e. ap (λ (found : Option Reference). cond (bytes_eq x.name name) (Some x) found) (found_with xs reference name other.1)
    ∙ exchanged (bytes_eq x.name name) (bytes_eq reference.name name) _ _ _ (never_both x.name reference.name name other.0))

either_way : (b : Bool) (found : Option Reference) → found ≡ cond b found found
either_way true found = refl
either_way false found = refl

-- a first one of another name changes nothing
first_other : (f : Option Reference → Option Reference) (n c : Bool) (x : Reference) (rest found : Option Reference) → (n ≡ true → c ≡ true → ⊥) → found ≡ cond c (f rest) rest
    → cond n (Some x) found ≡ cond c (f (cond n (Some x) rest)) (cond n (Some x) rest)
first_other f true true x rest found never e = absurd (never refl refl)
first_other f true false x rest found never e = refl
first_other f false c x rest found never e = e

first_gone : (n c : Bool) (x : Reference) (rest found : Option Reference) → n ≡ c → found ≡ cond c None rest → found ≡ cond c None (cond n (Some x) rest)
first_gone true true x rest found same e = e
first_gone true false x rest found same e = absurd cc
first_gone false true x rest found same e = absurd cc
first_gone false false x rest found same e = e

first_moved : (n c : Bool) (x reference : Reference) (rest found : Option Reference) → n ≡ c → found ≡ cond c (option_map (λ r. reference) rest) rest
    → cond c (Some reference) found ≡ cond c (option_map (λ r. reference) (cond n (Some x) rest)) (cond n (Some x) rest)
first_moved true true x reference rest found same e = refl
first_moved true false x reference rest found same e = absurd cc
first_moved false true x reference rest found same e = absurd cc
first_moved false false x reference rest found same e = e

-- after a removal nothing is found under the name, and the others as before
pub found_without : (references : List Reference) (gone name : List ℕ) → reference_of (without_reference references gone) name ≡ cond (bytes_eq gone name) None (reference_of references name)
found_without [] gone name = either_way (bytes_eq gone name) None
found_without (x ∷ xs) gone name =
    let rest = found_without xs gone name in
    split (bytes_eq x.name gone)
    (λ e. rw e (first_gone (bytes_eq x.name name) (bytes_eq gone name) x (reference_of xs name) _ (ap (λ (n : List ℕ). bytes_eq n name) (same_name _ _ e)) rest))
    (λ e. rw e (first_other (λ found. None) (bytes_eq x.name name) (bytes_eq gone name) x (reference_of xs name) _ (never_both x.name gone name e) rest))

-- after a move this one is found in place of its namesake, and the others as before
pub found_moved : (references : List Reference) (reference : Reference) (name : List ℕ)
    → reference_of (moved_reference references reference) name ≡ cond (bytes_eq reference.name name) (option_map (λ r. reference) (reference_of references name)) (reference_of references name)
found_moved [] reference name = either_way (bytes_eq reference.name name) None
found_moved (x ∷ xs) reference name =
    let rest = found_moved xs reference name in
    split (bytes_eq x.name reference.name)
    (λ e. rw e (first_moved (bytes_eq x.name name) (bytes_eq reference.name name) x reference (reference_of xs name) _ (ap (λ (n : List ℕ). bytes_eq n name) (same_name _ _ e)) rest))
    (λ e. rw e (first_other (option_map (λ r. reference)) (bytes_eq x.name name) (bytes_eq reference.name name) x (reference_of xs name) _ (never_both x.name reference.name name e) rest))
