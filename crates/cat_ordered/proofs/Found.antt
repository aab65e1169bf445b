-- What a search among pairs finds.
use Rattle.std.proofs.Common.{◌≡◌, ◌⊎◌, inl, inr, ℕ, zero, suc, ◌<◌, ◌≤◌, List, [], ◌∷◌, length, get_or, drop, Some, None, true, false, refl, sym, ap, ◌∙◌, arith}
use Rattle.std.proofs.lemmas.Bool.{cases_lt}
use Rattle.std.specs.Ordering.{is_lt, is_eq, ordering_reverse}
use Rattle.std.specs.Cmp.{IsTotalOrder}
use Rattle.std.specs.declared.cmp.Ordering.{Ordering}
use Rattle.std.specs.declared.cmp.Ordering.TheVariants.{Less, Greater}
use Rattle.cat_codes.specs.Code.{ascends}
use Rattle.cat_ordered.specs.Maps.{IsMap, value_of, from_key}
use Rattle.cat_ordered.specs.Places.{place_of}
use Rattle.cat_ordered.proofs.Order.{less_is, split3, head_tail, ascends_any, all_above}

-- an item is the one that was read there
same_item : {A : Type 0} (xs : List A) (i : ℕ) (x y : A) → i < length xs → x ≡ get_or xs i x → y ≡ get_or xs i y → y ≡ x
same_item [] i x y lt h g = absurd (omega arith)
same_item (z ∷ xs) zero x y lt h g = g ∙ sym h
same_item (z ∷ xs) (suc i) x y lt h g = same_item xs i x y (omega arith) h g

module _ {K V : Type 0} (cmp : K → K → Ordering) (total : IsTotalOrder cmp) where
  pub place_within : (map : List (K × V)) (key : K) → place_of cmp map key ≤ length map
  place_within [] key = omega arith
  place_within (x ∷ map) key = let rest = place_within map key in split3 (cmp x.0 key) (λ e. rw e (omega arith)) (λ e. rw e (omega arith)) (λ e. rw e (omega arith))

  -- a key that is below comes before the place
  pub before_place : (map : List (K × V)) (key : K) (i : ℕ) (x : K × V) → IsMap cmp map → i < length map → x ≡ get_or map i x → is_lt (cmp x.0 key) ≡ true → i < place_of cmp map key
  before_place [] key i x up lt e low = absurd (omega arith)
  before_place (y ∷ map) key zero x up lt e low =
      let less : cmp y.0 key ≡ Less = less_is _ (rw (← e) low) in
      rw less (omega arith)
  before_place (y ∷ map) key (suc i) x up lt e low =
      let t = (head_tail cmp total None y map up).1 in
      let above : cmp y.0 x.0 ≡ Less = rw e (all_above cmp total y.0 map i x t (omega arith)) in
      let less : cmp y.0 key ≡ Less = total.trans y.0 x.0 key above (less_is _ low) in
      let rest = before_place map key i x (ascends_any cmp total y.0 map t) (omega arith) e low in
      rw less (omega arith)

  -- and what comes before it is below
  pub low_before : (map : List (K × V)) (key : K) (i : ℕ) (x : K × V) → i < place_of cmp map key → x ≡ get_or map i x → is_lt (cmp x.0 key) ≡ true
  low_before [] key i x lt e = absurd (omega arith)
  low_before (y ∷ map) key zero x lt e = split3 (cmp y.0 key)
      (λ o. rw (e, o) refl)
      (λ o. let no : zero < zero = rw o at lt in absurd (omega arith))
      (λ o. let no : zero < zero = rw o at lt in absurd (omega arith))
  low_before (y ∷ map) key (suc i) x lt e = split3 (cmp y.0 key)
      (λ o. let more : suc i < suc (place_of cmp map key) = rw o at lt in low_before map key i x (omega arith) e)
      (λ o. let no : suc i < zero = rw o at lt in absurd (omega arith))
      (λ o. let no : suc i < zero = rw o at lt in absurd (omega arith))

  by_order : (map : List (K × V)) (key : K) (i : ℕ) (x : K × V) → (i < place_of cmp map key) ⊎ (place_of cmp map key ≤ i) → x ≡ get_or map i x → is_lt (cmp x.0 key) ≡ false → place_of cmp map key ≤ i
  by_order map key i x (inl lt) e high = let yes = low_before map key i x lt e in absurd cc
  by_order map key i x (inr le) e high = le

  -- so a key that isn't below comes no earlier than the place
  pub from_place : (map : List (K × V)) (key : K) (i : ℕ) (x : K × V) → x ≡ get_or map i x → is_lt (cmp x.0 key) ≡ false → place_of cmp map key ≤ i
  from_place map key i x e high = by_order map key i x (cases_lt i (place_of cmp map key)) e high

  -- what is there at the place
  pub record AtPlace (map : List (K × V)) (key : K) (x : K × V) : Type 0 where
    pub within : place_of cmp map key < length map
    pub read : x ≡ get_or map (place_of cmp map key) x

  -- nothing there has the key
  abbrev pub NotAtPlace : List (K × V) → K → Type 0
  NotAtPlace map key = (x : K × V) → AtPlace map key x → is_eq (cmp x.0 key) ≡ false

  in_tail : (y : K × V) (map : List (K × V)) (key : K) (x : K × V) → cmp y.0 key ≡ Less → AtPlace (y ∷ map) key x → AtPlace map key x
  in_tail y map key x e at = record { within = let lt = rw e at at.within in omega arith; read = rw e at at.read }

  to_tail : (y : K × V) (map : List (K × V)) (key : K) (x : K × V) → cmp y.0 key ≡ Less → AtPlace map key x → AtPlace (y ∷ map) key x
  to_tail y map key x e at = record { within = rw e (omega (arith, at.within)); read = rw e at.read }

  pub found : (map : List (K × V)) (key : K) (x : K × V) → AtPlace map key x → is_eq (cmp x.0 key) ≡ true → value_of cmp map key ≡ Some x.1
  found [] key x at same = absurd (omega (arith, at.within))
  found (y ∷ map) key x at same = split3 (cmp y.0 key)
      (λ e. rw e (found map key x (in_tail y map key x e at) same))
      (λ e. let first : x ≡ y = rw e at at.read in rw e (ap (λ (p : K × V). Some p.1) (sym first)))
      (λ e. let first : x ≡ y = rw e at at.read in let other : is_eq (cmp x.0 key) ≡ false = rw (first, e) refl in absurd cc)

  -- a key below all has no value
  none_above : (key : K) (y : K) (map : List (K × V)) → cmp key y ≡ Less → ascends cmp (Some y) map ≡ true → value_of cmp map key ≡ None
  none_above key y [] lt up = refl
  none_above key y (z ∷ map) lt up =
      let a = head_tail cmp total (Some y) z map up in
      let above : cmp key z.0 ≡ Less = total.trans key y z.0 lt (less_is _ a.0) in
      let greater : cmp z.0 key ≡ Greater = total.antisymm z.0 key ∙ ap ordering_reverse above in
      rw greater (none_above key z.0 map above a.1)

  pub not_found : (map : List (K × V)) (key : K) → IsMap cmp map → NotAtPlace map key → value_of cmp map key ≡ None
  not_found [] key up other = refl
  not_found (y ∷ map) key up other = split3 (cmp y.0 key)
      (λ e. rw e (not_found map key (ascends_any cmp total y.0 map (head_tail cmp total None y map up).1) (λ x at. other x (to_tail y map key x e at))))
      (λ e. let no = other y (record { within = rw e (omega arith); read = rw e refl }) in let yes : is_eq (cmp y.0 key) ≡ true = rw e refl in absurd cc)
      (λ e. let lower : cmp key y.0 ≡ Less = total.antisymm key y.0 ∙ ap ordering_reverse e in rw e (none_above key y.0 map lower (head_tail cmp total None y map up).1))

  -- ---- as the code reads

  pub at_read : (map : List (K × V)) (key : K) (i : ℕ) (x : K × V) → i ≡ place_of cmp map key → i < length map → x ≡ get_or map i x → AtPlace map key x
  at_read map key i x here lt e = record { within = omega arith; read = rw (← here) e }

  pub past_end : (map : List (K × V)) (key : K) (i : ℕ) → i ≡ place_of cmp map key → length map ≤ i → NotAtPlace map key
  past_end map key i here le x at = absurd (omega (arith, at.within))

  pub other_there : (map : List (K × V)) (key : K) (i : ℕ) (x : K × V) → i ≡ place_of cmp map key → i < length map → x ≡ get_or map i x → is_eq (cmp x.0 key) ≡ false → NotAtPlace map key
  other_there map key i x here lt e other y at =
      let same : y ≡ x = same_item map i x y lt e (rw here at.read) in
      rw same other

  -- the pairs from the place of a key on
  pub from_is : (map : List (K × V)) (key : K) → drop (place_of cmp map key) map ≡ from_key cmp map key
  from_is [] key = refl
  from_is (x ∷ map) key = split3 (cmp x.0 key) (λ o. rw o (from_is map key)) (λ o. rw o refl) (λ o. rw o refl)

  pub empty_value : (map : List (K × V)) (key : K) → length map ≡ 0 → None ≡ value_of cmp map key
  empty_value [] key e = refl
  empty_value (x ∷ map) key e = absurd (omega arith)
