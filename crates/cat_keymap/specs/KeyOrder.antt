-- The order of keys, and lists of pairs that ascend by them.
use Rattle.std.proofs.Common.{◌≡◌, ℕ, zero, suc, ◌<◌, List, [], ◌∷◌, length, get_or, Option, Some, None, Bool, true, false, ◌&&◌, refl, sym, ap, ◌∙◌, arith}
use Rattle.std.specs.Ordering.{is_lt, is_eq, ordering_reverse}
use Rattle.std.specs.Cmp.{IsTotalOrder, nat_cmp_total}
use Rattle.std.specs.Cmp.Lexicographic.{lists_total}
use Rattle.std.specs.declared.cmp.Ordering.{Ordering}
use Rattle.std.specs.declared.cmp.Ordering.TheVariants.{Less, Equal, Greater}
use Rattle.cat_codes.specs.Code.{follows, ascends}
use Rattle.cat_names.specs.Fields.{Key, key_cmp}

pub key_total : IsTotalOrder key_cmp
key_total = lists_total (lists_total nat_cmp_total)

pub less_is : (o : Ordering) → is_lt o ≡ true → o ≡ Less
less_is Less e = refl
less_is Equal e = absurd cc
less_is Greater e = absurd cc

pub equal_is : (o : Ordering) → is_eq o ≡ true → o ≡ Equal
equal_is Equal e = refl
equal_is Less e = absurd cc
equal_is Greater e = absurd cc

pub split3 : {P : Type 0} (o : Ordering) → (o ≡ Less → P) → (o ≡ Equal → P) → (o ≡ Greater → P) → P
split3 Less f g h = f refl
split3 Equal f g h = g refl
split3 Greater f g h = h refl

pub both_true : (a b : Bool) → a ≡ true → b ≡ true → (a && b) ≡ true
both_true true b h e = e
both_true false b h e = absurd cc

pub and_true : (a b : Bool) → (a && b) ≡ true → (a ≡ true) × (b ≡ true)
and_true true b e = (refl, e)
and_true false b e = absurd cc

-- below by way of a key in between, or of an equal one
pub below_alike : (x y z : Key) → key_cmp x y ≡ Equal → key_cmp z x ≡ Less → key_cmp z y ≡ Less
below_alike x y z e h = key_total.antisymm z y ∙ ap ordering_reverse (sym (key_total.congr x y z e)) ∙ sym (key_total.antisymm z x) ∙ h

module _ {V : Type 0} where
  pub head_tail : (last : Option Key) (x : Key × V) (map : List (Key × V)) → ascends key_cmp last (x ∷ map) ≡ true → (follows key_cmp last x.0 ≡ true) × (ascends key_cmp (Some x.0) map ≡ true)
  head_tail last x map up = and_true (follows key_cmp last x.0) (ascends key_cmp (Some x.0) map) up

  -- pairs that ascend above a key ascend above a lower one
  pub ascends_lower : (x : Key) (last : Option Key) (map : List (Key × V)) → follows key_cmp last x ≡ true → ascends key_cmp (Some x) map ≡ true → ascends key_cmp last map ≡ true
  ascends_lower x last [] e h = refl
  ascends_lower x None (z ∷ map) e h = (head_tail (Some x) z map h).1
  ascends_lower x (Some y) (z ∷ map) e h =
      let a = head_tail (Some x) z map h in
      let up : key_cmp y z.0 ≡ Less = key_total.trans y x z.0 (less_is _ e) (less_is _ a.0) in
      both_true _ _ (rw up refl) a.1

  -- and above any key like it
  pub ascends_alike : (x y : Key) (map : List (Key × V)) → key_cmp x y ≡ Equal → ascends key_cmp (Some x) map ≡ true → ascends key_cmp (Some y) map ≡ true
  ascends_alike x y [] e h = refl
  ascends_alike x y (z ∷ map) e h =
      let a = head_tail (Some x) z map h in
      let same : is_lt (key_cmp y z.0) ≡ true = rw (← key_total.congr x y z.0 e) a.0 in
      both_true _ _ same a.1

  pub ascends_any : (x : Key) (map : List (Key × V)) → ascends key_cmp (Some x) map ≡ true → ascends key_cmp None map ≡ true
  ascends_any x map h = ascends_lower x None map refl h

  -- what ascends above a key is above it everywhere
  pub all_above : (x : Key) (map : List (Key × V)) (j : ℕ) (d : Key × V) → ascends key_cmp (Some x) map ≡ true → j < length map → key_cmp x (get_or map j d).0 ≡ Less
  all_above x [] j d up lt = absurd (omega arith)
  all_above x (y ∷ map) zero d up lt = less_is _ (head_tail (Some x) y map up).0
  all_above x (y ∷ map) (suc j) d up lt =
      let a = head_tail (Some x) y map up in
      all_above x map j d (ascends_lower y.0 (Some x) map a.0 a.1) (omega arith)
