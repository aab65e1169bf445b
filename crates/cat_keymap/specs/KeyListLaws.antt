-- Ascending lists of keys, told by the keys that are in them.
use Rattle.std.proofs.Common.{◌≡◌, List, [], ◌∷◌, ◌++◌, Option, Some, None, Bool, true, false, ◌&&◌, ◌||◌, refl, sym, ap, subst, ◌∙◌}
use Rattle.std.specs.Prelude.{filter}
use Rattle.std.specs.List.{list_any}
use Rattle.std.specs.Ordering.{is_eq}
use Rattle.std.specs.declared.cmp.Ordering.TheVariants.{Less}
use Rattle.cat_codes.specs.Code.{follows}
use Rattle.cat_names.specs.Fields.{Key, key_cmp}
use Rattle.cat_model.specs.Changed.{keys_of, is_changed, changed_keys}
use Rattle.cat_model.specs.KeySets.{key_set}
use Rattle.cat_model.specs.Maps.{Map}
use Rattle.cat_keymap.specs.KeyOrder.{key_total, less_is, split3, both_true, and_true}
use Rattle.cat_keymap.specs.MapLaws.{key_same}
use Rattle.cat_keymap.specs.Ordered.{rise}
use Rattle.cat_keymap.specs.SetLaws as sets
use Rattle.cat_keymap.specs.SetLaws.{or_assoc}

abbrev pub is_in : Key → List Key → Bool
is_in key keys = list_any (λ other. is_eq (key_cmp other key)) keys

-- ---- keys that ascend

abbrev pub Tail : Option Key → Key → List Key → Type 0
Tail last x keys = (follows key_cmp last x ≡ true) × (rise (Some x) keys ≡ true)

pub tail : (last : Option Key) (x : Key) (keys : List Key) → rise last (x ∷ keys) ≡ true → Tail last x keys
tail last x keys up = and_true (follows key_cmp last x) (rise (Some x) keys) up

pub rise_lower : (x : Key) (last : Option Key) (keys : List Key) → follows key_cmp last x ≡ true → rise (Some x) keys ≡ true → rise last keys ≡ true
rise_lower x last [] e h = refl
rise_lower x None (z ∷ keys) e h = (tail (Some x) z keys h).1
rise_lower x (Some y) (z ∷ keys) e h =
    let t = tail (Some x) z keys h in
    let up : key_cmp y z ≡ Less = key_total.trans y x z (less_is _ e) (less_is _ t.0) in
    both_true _ _ (rw up refl) t.1

-- keys are the same where they compare equal
abbrev same_key : Key → Key → Bool
same_key a b = is_eq (key_cmp a b)

pub one_list : (xs ys : List Key) → rise None xs ≡ true → rise None ys ≡ true → ((key : Key) → is_in key xs ≡ is_in key ys) → xs ≡ ys
one_list xs ys u v same = sets.one_list key_cmp key_total same_key (λ a b. refl) key_same xs ys u v same

pub set_rises : (keys : List Key) → rise None (key_set keys) ≡ true
set_rises keys = sets.set_rises key_cmp key_total same_key (λ a b. refl) key_same keys

pub in_set : (key : Key) (keys : List Key) → is_in key (key_set keys) ≡ is_in key keys
in_set key keys = sets.in_set key_cmp key_total same_key (λ a b. refl) key_same keys key

-- ---- those that pass a test

pub rise_filter : (p : Key → Bool) (last : Option Key) (keys : List Key) → rise last keys ≡ true → rise last (filter p keys) ≡ true
rise_filter p last [] up = refl
rise_filter p last (x ∷ keys) up = by (tail last x keys up) (rise_filter p (Some x) keys (tail last x keys up).1) (p x) refl
  where
    by : Tail last x keys → rise (Some x) (filter p keys) ≡ true → (b : Bool) → p x ≡ b → rise last (filter p (x ∷ keys)) ≡ true
    by t rest true e = rw e (both_true _ _ t.0 rest)
    by t rest false e = rw e (rise_lower x last (filter p keys) t.0 rest)

-- the keys whose entries differ ascend
pub changed_rises : (a b : Map) → rise None (changed_keys a b) ≡ true
changed_rises a b = rise_filter (is_changed a b) None (key_set (keys_of a ++ keys_of b)) (set_rises (keys_of a ++ keys_of b))

pub and_false : (a : Bool) → (a && false) ≡ false
and_false true = refl
and_false false = refl

pub in_filter : (p : Key → Bool) (key : Key) (keys : List Key) → is_in key (filter p keys) ≡ (is_in key keys && p key)
in_filter p key [] = refl
in_filter p key (x ∷ keys) = split3 (key_cmp x key)
    (λ o. other (ap is_eq o) (in_filter p key keys) (p x) refl)
    (λ o. same (key_same x key o) (ap is_eq o) (in_filter p key keys) (p x) refl)
    (λ o. other (ap is_eq o) (in_filter p key keys) (p x) refl)
  where
    other : is_eq (key_cmp x key) ≡ false → is_in key (filter p keys) ≡ (is_in key keys && p key) → (b : Bool) → p x ≡ b → is_in key (filter p (x ∷ keys)) ≡ (is_in key (x ∷ keys) && p key)
    other out rest true e = rw e (rw out rest)
    other out rest false e = rw e (rw out rest)

    same : x ≡ key → is_eq (key_cmp x key) ≡ true → is_in key (filter p keys) ≡ (is_in key keys && p key) → (b : Bool) → p x ≡ b → is_in key (filter p (x ∷ keys)) ≡ (is_in key (x ∷ keys) && p key)
    same k there rest true e = let here : p key ≡ true = ap p (sym k) ∙ e in rw e (rw (there, here) refl)
    same k there rest false e = let here : p key ≡ false = ap p (sym k) ∙ e in rw e (rest ∙ rw (there, here) (and_false (is_in key keys)))

pub in_both : (key : Key) (xs ys : List Key) → is_in key (xs ++ ys) ≡ (is_in key xs || is_in key ys)
in_both key [] ys = refl
in_both key (x ∷ xs) ys = ap (λ (b : Bool). is_eq (key_cmp x key) || b) (in_both key xs ys) ∙ sym (or_assoc (is_eq (key_cmp x key)) (is_in key xs) (is_in key ys))
