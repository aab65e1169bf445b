-- Look-ups in maps that are put together.
use Rattle.std.proofs.Common.{◌≡◌, ℕ, ◌+◌, List, [], ◌∷◌, ◌++◌, length, Option, Some, None, true, false, refl, ap, ◌∙◌, if◌then◌else◌, arith}
use Rattle.std.specs.List.{AllByRecursion}
use Rattle.std.specs.Ordering.{is_eq, is_le, ordering_reverse}
use Rattle.std.specs.Cmp.{IsTotalOrder}
use Rattle.std.specs.declared.cmp.Ordering.{Ordering}
use Rattle.std.specs.declared.cmp.Ordering.TheVariants.{Less, Greater}
use Rattle.cat_codes.specs.Code.{ascends}
use Rattle.cat_ordered.specs.Maps.{IsMap, value_of, begins_by}
use Rattle.cat_ordered.specs.Places.{step, place_of}
use Rattle.cat_ordered.proofs.Order.{less_is, split3, head_tail, ascends_back, at_most}

greater : (o : Ordering) → o ≡ Greater → is_le o ≡ false
greater o e = rw e refl

module _ {K V : Type 0} (cmp : K → K → Ordering) (total : IsTotalOrder cmp) where
  -- each key is below this one
  abbrev pub AllBelow : K → List (K × V) → Type 0
  AllBelow key map = AllByRecursion (λ (x : K × V). cmp x.0 key ≡ Less) map

  pub lower_all : (k key : K) (map : List (K × V)) → cmp k key ≡ Less → AllBelow k map → AllBelow key map
  lower_all k key [] lt below = tt
  lower_all k key (x ∷ map) lt below = (total.trans x.0 k key below.0 lt, lower_all k key map lt below.1)

  -- a pair that comes later has a greater key
  later_above : (last : Option K) (k : K) (a : List (K × V)) (z : K × V) (b : List (K × V)) → last ≡ Some k → ascends cmp last (a ++ z ∷ b) ≡ true → cmp k z.0 ≡ Less
  later_above None k a z b e up = absurd cc
  later_above (Some l) k a z b e up =
      let same : l ≡ k = cc in
      rw (← same) (less_is _ (head_tail cmp total (Some l) z b (ascends_back cmp total (Some l) a (z ∷ b) up)).0)

  front_below : (last : Option K) (a : List (K × V)) (z : K × V) (b : List (K × V)) → ascends cmp last (a ++ z ∷ b) ≡ true → AllBelow z.0 a
  front_below last [] z b up = tt
  front_below last (x ∷ a) z b up =
      let t = (head_tail cmp total last x (a ++ z ∷ b) up).1 in
      (later_above (Some x.0) x.0 a z b refl t, front_below (Some x.0) a z b t)

  below_most : (z : K × V) (key : K) (m : List (K × V)) → is_le (cmp z.0 key) ≡ true → AllBelow z.0 m → AllBelow key m
  below_most z key [] le h = tt
  below_most z key (x ∷ m) le h = (at_most cmp total z.0 key x.0 le h.0, below_most z key m le h.1)

  -- what is in front of a part that begins by a key is below the key
  pub front_begins : (a b : List (K × V)) (key : K) → IsMap cmp (a ++ b) → begins_by cmp b key ≡ true → AllBelow key a
  front_begins a [] key up begins = absurd cc
  front_begins a (z ∷ b) key up begins = below_most z key a begins (front_below None a z b up)

  -- keys below are passed over
  value_past : (a b : List (K × V)) (key : K) → AllBelow key a → value_of cmp (a ++ b) key ≡ value_of cmp b key
  value_past [] b key below = refl
  value_past (x ∷ a) b key below = rw below.0 (value_past a b key below.1)

  begins_later : (k : K) (m : List (K × V)) (key : K) → ascends cmp (Some k) m ≡ true → cmp k key ≡ Greater → begins_by cmp m key ≡ false
  begins_later k [] key up o = refl
  begins_later k (y ∷ m) key up o =
      let above : cmp key k ≡ Less = total.antisymm key k ∙ ap ordering_reverse o in
      let more : cmp key y.0 ≡ Less = total.trans key k y.0 above (less_is _ (head_tail cmp total (Some k) y m up).0) in
      greater _ (total.antisymm y.0 key ∙ ap ordering_reverse more)

  -- a part that doesn't begin by the key has none of it
  none_there : (last : Option K) (b : List (K × V)) (key : K) → ascends cmp last b ≡ true → begins_by cmp b key ≡ false → value_of cmp b key ≡ None
  none_there last [] key up nothere = refl
  none_there last (x ∷ b) key up miss = split3 (cmp x.0 key)
      (λ o. let yes : is_le (cmp x.0 key) ≡ true = rw o refl in absurd cc)
      (λ o. let yes : is_le (cmp x.0 key) ≡ true = rw o refl in absurd cc)
      (λ o. rw o (none_there (Some x.0) b key (head_tail cmp total last x b up).1 (begins_later x.0 b key (head_tail cmp total last x b up).1 o)))

  value_front : (a b : List (K × V)) (key : K) → value_of cmp b key ≡ None → value_of cmp (a ++ b) key ≡ value_of cmp a key
  value_front [] b key none = none
  value_front (x ∷ a) b key none = ap (λ (o : Option V). if is_eq (cmp x.0 key) then Some x.1 else o) (value_front a b key none)

  -- a key is found in the part between
  pub value_between : (a e b : List (K × V)) (key : K) → IsMap cmp (a ++ (e ++ b)) → AllBelow key a → begins_by cmp b key ≡ false → value_of cmp (a ++ (e ++ b)) key ≡ value_of cmp e key
  value_between a e b key up below miss =
      let rest = ascends_back cmp total None a (e ++ b) up in
      value_past a (e ++ b) key below ∙ value_front e b key (none_there None b key (ascends_back cmp total None e b rest) miss)

  -- ---- how many keys are below

  place_past : (a b : List (K × V)) (key : K) → AllBelow key a → place_of cmp (a ++ b) key ≡ length a + place_of cmp b key
  place_past [] b key below = omega arith
  place_past (x ∷ a) b key below = rw below.0 (omega (arith, place_past a b key below.1))

  place_later : (b : List (K × V)) (key : K) → begins_by cmp b key ≡ false → place_of cmp b key ≡ 0
  place_later [] key miss = refl
  place_later (z ∷ b) key miss = split3 (cmp z.0 key)
      (λ o. let hit : is_le (cmp z.0 key) ≡ true = rw o refl in absurd cc)
      (λ o. rw o refl)
      (λ o. rw o refl)

  place_front : (e b : List (K × V)) (key : K) → begins_by cmp b key ≡ false → place_of cmp (e ++ b) key ≡ place_of cmp e key
  place_front [] b key miss = place_later b key miss
  place_front (x ∷ e) b key miss = ap (step (cmp x.0 key)) (place_front e b key miss)

  pub place_between : (a e b : List (K × V)) (key : K) → AllBelow key a → begins_by cmp b key ≡ false → place_of cmp (a ++ (e ++ b)) key ≡ length a + place_of cmp e key
  place_between a e b key below miss = place_past a (e ++ b) key below ∙ ap (λ (n : ℕ). length a + n) (place_front e b key miss)
