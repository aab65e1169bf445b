-- The order of keys, and lists of pairs that ascend by them.
use Rattle.std.proofs.Common.{◌≡◌, ℕ, zero, suc, ◌<◌, List, [], ◌∷◌, ◌++◌, length, get_or, take, drop, Option, Some, None, Bool, true, false, ◌&&◌, refl, sym, ap, ◌∙◌, arith}
use Rattle.std.specs.Ordering.{is_lt, is_le, ordering_reverse}
use Rattle.std.specs.Cmp.{IsTotalOrder}
use Rattle.std.specs.declared.cmp.Ordering.{Ordering}
use Rattle.std.specs.declared.cmp.Ordering.TheVariants.{Less, Equal, Greater}
use Rattle.cat_codes.specs.Code.{follows, ascends}
use Rattle.cat_ordered.specs.Maps.{IsMap, after_change, after_changes, placed}

pub less_is : (o : Ordering) → is_lt o ≡ true → o ≡ Less
less_is Less e = refl
less_is Equal e = absurd cc
less_is Greater e = absurd cc

pub split3 : {P : Type 0} (o : Ordering) → (o ≡ Less → P) → (o ≡ Equal → P) → (o ≡ Greater → P) → P
split3 Less f g h = f refl
split3 Equal f g h = g refl
split3 Greater f g h = h refl

pub both_true : (a b : Bool) → a ≡ true → b ≡ true → (a && b) ≡ true
both_true true b h e = e
both_true false b h e = absurd cc

and_true : (a b : Bool) → (a && b) ≡ true → (a ≡ true) × (b ≡ true)
and_true true b e = (refl, e)
and_true false b e = absurd cc

module _ {K : Type 0} (cmp : K → K → Ordering) (total : IsTotalOrder cmp) where
  pub head_tail : {V : Type 0} (last : Option K) (x : K × V) (map : List (K × V)) → ascends cmp last (x ∷ map) ≡ true → (follows cmp last x.0 ≡ true) × (ascends cmp (Some x.0) map ≡ true)
  head_tail last x map up = and_true (follows cmp last x.0) (ascends cmp (Some x.0) map) up

  -- pairs that ascend above a key ascend above a lower one
  pub ascends_lower : {V : Type 0} (x : K) (last : Option K) (map : List (K × V)) → follows cmp last x ≡ true → ascends cmp (Some x) map ≡ true → ascends cmp last map ≡ true
  ascends_lower x last [] e h = refl
  ascends_lower x None (z ∷ map) e h = (head_tail (Some x) z map h).1
  ascends_lower x (Some y) (z ∷ map) e h =
      let a = head_tail (Some x) z map h in
      let up : cmp y z.0 ≡ Less = total.trans y x z.0 (less_is _ e) (less_is _ a.0) in
      both_true _ _ (rw up refl) a.1

  -- and above any key like it
  pub ascends_alike : {V : Type 0} (x y : K) (map : List (K × V)) → cmp x y ≡ Equal → ascends cmp (Some x) map ≡ true → ascends cmp (Some y) map ≡ true
  ascends_alike x y [] e h = refl
  ascends_alike x y (z ∷ map) e h =
      let a = head_tail (Some x) z map h in
      let same : is_lt (cmp y z.0) ≡ true = rw (← total.congr x y z.0 e) a.0 in
      both_true _ _ same a.1

  pub ascends_any : {V : Type 0} (x : K) (map : List (K × V)) → ascends cmp (Some x) map ≡ true → ascends cmp None map ≡ true
  ascends_any x map h = ascends_lower x None map refl h

  -- what ascends above a key is above it everywhere
  pub all_above : {V : Type 0} (x : K) (map : List (K × V)) (j : ℕ) (d : K × V) → ascends cmp (Some x) map ≡ true → j < length map → cmp x (get_or map j d).0 ≡ Less
  all_above x [] j d up lt = absurd (omega arith)
  all_above x (y ∷ map) zero d up lt = less_is _ (head_tail (Some x) y map up).0
  all_above x (y ∷ map) (suc j) d up lt =
      let a = head_tail (Some x) y map up in
      all_above x map j d (ascends_lower y.0 (Some x) map a.0 a.1) (omega arith)

  pub ascends_drop : {V : Type 0} (n : ℕ) (map : List (K × V)) → ascends cmp None map ≡ true → ascends cmp None (drop n map) ≡ true
  ascends_drop zero map up = up
  ascends_drop (suc n) [] up = refl
  ascends_drop (suc n) (x ∷ map) up = ascends_drop n map (ascends_any x.0 map (head_tail None x map up).1)

  pub ascends_take : {V : Type 0} (last : Option K) (n : ℕ) (map : List (K × V)) → ascends cmp last map ≡ true → ascends cmp last (take n map) ≡ true
  ascends_take last zero map up = refl
  ascends_take last (suc n) [] up = refl
  ascends_take last (suc n) (x ∷ map) up = let h = head_tail last x map up in both_true _ _ h.0 (ascends_take (Some x.0) n map h.1)

  pub ascends_front : {V : Type 0} (last : Option K) (a b : List (K × V)) → ascends cmp last (a ++ b) ≡ true → ascends cmp last a ≡ true
  ascends_front last [] b up = refl
  ascends_front last (x ∷ a) b up = let h = head_tail last x (a ++ b) up in both_true _ _ h.0 (ascends_front (Some x.0) a b h.1)

  pub ascends_back : {V : Type 0} (last : Option K) (a b : List (K × V)) → ascends cmp last (a ++ b) ≡ true → ascends cmp last b ≡ true
  ascends_back last [] b up = up
  ascends_back last (x ∷ a) b up = let h = head_tail last x (a ++ b) up in ascends_lower x.0 last b h.0 (ascends_back (Some x.0) a b h.1)

  -- not above, as the tests say it
  pub at_most : (k key q : K) → is_le (cmp k key) ≡ true → cmp q k ≡ Less → cmp q key ≡ Less
  at_most k key q le lt = split3 (cmp k key)
      (λ o. total.trans q k key lt o)
      (λ o. total.antisymm q key ∙ ap ordering_reverse (sym (total.congr k key q o) ∙ total.antisymm k q ∙ ap ordering_reverse lt))
      (λ o. let no : is_le (cmp k key) ≡ false = rw o refl in absurd cc)

  -- ---- a change keeps the order

  kept_by : {V : Type 0} (o : Ordering) (last : Option K) (key : K) (value : Option V) (x : K × V) (map changed : List (K × V)) → cmp x.0 key ≡ o
      → follows cmp last key ≡ true → follows cmp last x.0 ≡ true → ascends cmp (Some x.0) map ≡ true
      → (follows cmp (Some x.0) key ≡ true → ascends cmp (Some x.0) changed ≡ true)
      → ascends cmp last (placed o (key, value) x map changed) ≡ true
  kept_by Less last key value x map changed h f g up rest = both_true _ _ g (rest (rw h refl))
  kept_by Equal last key None x map changed h f g up rest = ascends_lower x.0 last map g up
  kept_by Equal last key (Some value) x map changed h f g up rest = both_true _ _ f (ascends_alike x.0 key map h up)
  kept_by Greater last key None x map changed h f g up rest = both_true _ _ g up
  kept_by Greater last key (Some value) x map changed h f g up rest =
      let above : cmp key x.0 ≡ Less = total.antisymm key x.0 ∙ ap ordering_reverse h in
      both_true _ _ f (both_true _ _ (rw above refl) up)

  ascends_after : {V : Type 0} (last : Option K) (key : K) (value : Option V) (map : List (K × V)) → follows cmp last key ≡ true → ascends cmp last map ≡ true → ascends cmp last (after_change cmp (key, value) map) ≡ true
  ascends_after last key None [] f up = refl
  ascends_after last key (Some value) [] f up = both_true _ _ f refl
  ascends_after last key value (x ∷ map) f up =
      let a = head_tail last x map up in
      kept_by (cmp x.0 key) last key value x map (after_change cmp (key, value) map) refl f a.0 a.1 (λ g. ascends_after (Some x.0) key value map g a.1)

  -- a change of a map gives a map, and so do changes
  pub IsMap-after_change : {V : Type 0} (change : K × Option V) (map : List (K × V)) → IsMap cmp map → IsMap cmp (after_change cmp change map)
  IsMap-after_change change map up = ascends_after None change.0 change.1 map refl up

  pub IsMap-after_changes : {V : Type 0} (changes : List (K × Option V)) (map : List (K × V)) → IsMap cmp map → IsMap cmp (after_changes cmp changes map)
  IsMap-after_changes [] map up = up
  IsMap-after_changes (c ∷ cs) map up = IsMap-after_changes cs (after_change cmp c map) (IsMap-after_change c map up)
