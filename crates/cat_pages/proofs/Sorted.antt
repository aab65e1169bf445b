-- What stands behind an item of an ascending list.
use Rattle.std.proofs.Common.{◌≡◌, Bool, true, false, cond, List, [], ◌∷◌, refl, ap, ◌∙◌}
use Rattle.std.specs.List.{AllByRecursion, list_all, filter}
use Rattle.cat_keymap.specs.KeyOrder.{and_true, both_true}
use Rattle.cat_pages.proofs.Pages.{AreAfter}

module _ {X : Type 0} (lt : X → X → Bool) where
  -- each item is below all that follow
  abbrev pub Ascend : List X → Type 0
  Ascend [] = Unit {0}
  Ascend (x ∷ xs) = (list_all (lt x) xs ≡ true) × Ascend xs

  all_kept : (p q : X → Bool) (xs : List X) → list_all p xs ≡ true → list_all p (filter q xs) ≡ true
  all_kept p q [] e = refl
  all_kept p q (x ∷ xs) e = let a = and_true (p x) (list_all p xs) e in by (q x) a.0 (all_kept p q xs a.1)
    where
      by : (b : Bool) → p x ≡ true → list_all p (filter q xs) ≡ true → list_all p (cond b (x ∷ filter q xs) (filter q xs)) ≡ true
      by true h rest = both_true _ _ h rest
      by false h rest = rest

  pub ascend_kept : (q : X → Bool) (xs : List X) → Ascend xs → Ascend (filter q xs)
  ascend_kept q [] up = tt
  ascend_kept q (x ∷ xs) up = by (q x) (all_kept (lt x) q xs up.0) (ascend_kept q xs up.1)
    where
      by : (b : Bool) → list_all (lt x) (filter q xs) ≡ true → Ascend (filter q xs) → Ascend (cond b (x ∷ filter q xs) (filter q xs))
      by true h rest = (h, rest)
      by false h rest = rest

  -- all are above x
  all_above : (x : X) (xs : List X) → list_all (lt x) xs ≡ true → filter (lt x) xs ≡ xs
  all_above x [] e = refl
  all_above x (y ∷ xs) e = let a = and_true (lt x y) (list_all (lt x) xs) e in rw a.0 (ap (λ (l : List X). y ∷ l) (all_above x xs a.1))

  module _ (not_above : (x y : X) → lt x y ≡ true → lt y x ≡ false) (not_itself : (x : X) → lt x x ≡ false) where
    -- to each of those left, the whole list has no more above it
    abbrev AreLast : List X → List X → List X → Type 0
    AreLast all left xs = AllByRecursion (λ y. filter (lt y) all ≡ filter (lt y) left) xs

    without : (all left : List X) (x : X) (xs : List X) → list_all (lt x) xs ≡ true → AreLast all (x ∷ left) xs → AreLast all left xs
    without all left x [] e last = tt
    without all left x (y ∷ xs) e last =
        let a = and_true (lt x y) (list_all (lt x) xs) e in
        (last.0 ∙ (rw (not_above x y a.0) refl), without all left x xs a.1 last.1)

    behind : (all left : List X) → Ascend left → AreLast all left left → AreAfter (λ (x : X). x) (λ (x : X). filter (lt x) all) left
    behind all [] up last = tt
    behind all (x ∷ left) up last =
        (last.0 ∙ (rw (not_itself x) (all_above x left up.0)), behind all left up.1 (without all left x left up.0 last.1))

    same : (all xs : List X) → AreLast all all xs
    same all [] = tt
    same all (x ∷ xs) = (refl, same all xs)

    -- the items above one are those behind it
    pub above_are_behind : (all : List X) → Ascend all → AreAfter (λ (x : X). x) (λ (x : X). filter (lt x) all) all
    above_are_behind all up = behind all all up (same all all)

module _ {X Y : Type 0} (key : X → Y) (rest : Y → List X) where
  -- the same by a part of each item
  pub by_key : (left : List X) → AreAfter (λ (x : X). x) (λ (x : X). rest (key x)) left → AreAfter key rest left
  by_key [] are = tt
  by_key (x ∷ left) are = (are.0, by_key left are.1)
