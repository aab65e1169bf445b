-- Pages that follow one another make the listing.
use Rattle.std.proofs.Common.{◌≡◌, ℕ, zero, suc, ◌+◌, ◌<◌, ◌≤◌, true, false, List, [], ◌∷◌, ◌++◌, length, take, drop, Option, Some, None, refl, ap, ◌∙◌, append-nil, arith, inl, inr}
use Rattle.std.specs.Option.{option_map, option_map_or}
use Rattle.std.specs.Prelude.{nat_lt}
use Rattle.std.proofs.lemmas.Bool.{cases_lt, lt-ltb, le-ltb}
use Rattle.std.proofs.lemmas.List.{take_all, take-append-drop, length-drop}
use Rattle.cat_model.specs.Pages.{first, last, last_shown, pages}

-- ---- any tokens

module _ {X Y : Type 0} (limit : ℕ) (next : List X → Option Y) (rest : Y → List X) (Is : List X → Type 0) where
  -- where so many are left and no more, no page follows; where more are left, the token leaves those
  -- that were not shown
  pub record Leads : Type 0 where
    pub ends : (left : List X) → length left ≤ limit → next left ≡ None
    pub goes : (left : List X) → Is left → limit < length left → (y : Y) × (next left ≡ Some y) × (rest y ≡ drop limit left)
    pub stays : (left : List X) → Is left → Is (drop limit left)

  pub whole : 0 < limit → Leads → (n : ℕ) (left : List X) → Is left → length left < n → pages (take limit) next rest n left ≡ left
  whole some leads zero left is few = absurd (omega arith)
  whole some leads (suc n) left is few =
      elim (cases_lt limit (length left)) [
        | inl more ↦
            let (y, here, there) = leads.goes left is more in
            let fewer : length (drop limit left) < n = omega (arith, length-drop limit left) in
            let others : pages (take limit) next rest n (rest y) ≡ drop limit left = ap (λ (l : List X). pages (take limit) next rest n l) there ∙ whole some leads n (drop limit left) (leads.stays left is) fewer in
            ap (λ (o : Option Y). take limit left ++ option_map_or (λ token. pages (take limit) next rest n (rest token)) o []) here
            ∙ ap (λ (l : List X). take limit left ++ l) others ∙ take-append-drop limit left
        | inr all ↦
            ap (λ (o : Option Y). take limit left ++ option_map_or (λ token. pages (take limit) next rest n (rest token)) o []) (leads.ends left all)
            ∙ append-nil (take limit left) ∙ take_all limit left all
      ]

-- ---- tokens of the last item shown

module _ {X Y : Type 0} (key : X → Y) (rest : Y → List X) where
  -- what each item leaves is what stands behind it
  abbrev pub AreAfter : List X → Type 0
  AreAfter [] = Unit {0}
  AreAfter (x ∷ xs) = (rest (key x) ≡ xs) × AreAfter xs

  after_drop : (n : ℕ) (left : List X) → AreAfter left → AreAfter (drop n left)
  after_drop zero left are = are
  after_drop (suc n) [] are = are
  after_drop (suc n) (x ∷ left) are = after_drop n left are.1

  after_last : (n : ℕ) (left : List X) → AreAfter left → suc n < length left → (x : X) × (last (take (suc n) left) ≡ Some x) × (rest (key x) ≡ drop (suc n) left)
  after_last n [] are more = absurd (omega arith)
  after_last zero (x ∷ left) are more = (x, refl, are.0)
  after_last (suc n) (x ∷ []) are more = absurd (omega arith)
  after_last (suc n) (x ∷ y ∷ left) are more = after_last n (y ∷ left) are.1 (omega arith)

  abbrev of_last : ℕ → List X → Option Y
  of_last limit left = option_map key (last_shown limit left)

  last_leads : (n : ℕ) → Leads (suc n) (of_last (suc n)) rest AreAfter
  last_leads n = record {
    ends = λ left few. let e : nat_lt (suc n) (length left) ≡ false = le-ltb _ _ few in rw e refl;
    goes = λ left are more.
        let e : nat_lt (suc n) (length left) ≡ true = lt-ltb _ _ more in
        let (x, here, there) = after_last n left are more in
        (key x, rw (e, here) refl, there);
    stays = after_drop (suc n);
  }

  pub by_last : (limit : ℕ) (left : List X) → 0 < limit → AreAfter left → pages (take limit) (of_last limit) rest (length left + 1) left ≡ left
  by_last zero left some are = absurd (omega arith)
  by_last (suc n) left some are = whole (suc n) (of_last (suc n)) rest AreAfter some (last_leads n) (length left + 1) left are (omega arith)

-- ---- tokens of the first item not shown

module _ {X Y : Type 0} (key : X → Y) (rest : Y → List X) where
  -- what each item leaves is itself and what stands behind it
  abbrev pub AreFrom : List X → Type 0
  AreFrom [] = Unit {0}
  AreFrom (x ∷ xs) = (rest (key x) ≡ x ∷ xs) × AreFrom xs

  from_drop : (n : ℕ) (left : List X) → AreFrom left → AreFrom (drop n left)
  from_drop zero left are = are
  from_drop (suc n) [] are = are
  from_drop (suc n) (x ∷ left) are = from_drop n left are.1

  from_next : (n : ℕ) (left : List X) → AreFrom left → n < length left → (x : X) × (first (drop n left) ≡ Some x) × (rest (key x) ≡ drop n left)
  from_next n [] are more = absurd (omega arith)
  from_next zero (x ∷ left) are more = (x, refl, are.0)
  from_next (suc n) (x ∷ left) are more = from_next n left are.1 (omega arith)

  none_next : (n : ℕ) (left : List X) → length left ≤ n → first (drop n left) ≡ None
  none_next zero [] few = refl
  none_next zero (x ∷ left) few = absurd (omega arith)
  none_next (suc n) [] few = refl
  none_next (suc n) (x ∷ left) few = none_next n left (omega arith)

  abbrev of_next : ℕ → List X → Option Y
  of_next limit left = option_map key (first (drop limit left))

  next_leads : (limit : ℕ) → Leads limit (of_next limit) rest AreFrom
  next_leads limit = record {
    ends = λ left few. ap (λ (o : Option X). option_map key o) (none_next limit left few);
    goes = λ left are more.
        let (x, here, there) = from_next limit left are more in
        (key x, ap (λ (o : Option X). option_map key o) here, there);
    stays = from_drop limit;
  }

  pub by_next : (limit : ℕ) (left : List X) → 0 < limit → AreFrom left → pages (take limit) (of_next limit) rest (length left + 1) left ≡ left
  by_next limit left some are = whole limit (of_next limit) rest AreFrom some (next_leads limit) (length left + 1) left are (omega arith)
