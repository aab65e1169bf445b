-- Steps of a walk.
use Rattle.std.proofs.Common.{◌≡◌, ◌⊎◌, inl, inr, ℕ, ◌+◌, ◌<◌, ◌≤◌, List, [], ◌∷◌, ◌++◌, length, get_or, take, drop, Some, None, refl, sym, ap, ◌∙◌, arith, length-drop}
use Rattle.std.proofs.lemmas.Bool.{cases_lt}
use Rattle.std.proofs.lemmas.List.{take-append-drop, drop-drop, drop_all, take_all}
use Rattle.cat_ordered.specs.Maps.{first_of}
use Rattle.cat_ordered.specs.Walks.{IsWalk}
use Rattle.cat_ordered.proofs.Seats.{within_front}

module _ {E : Type 0} where
  -- a part of what is left, and what follows it
  pub whole_from : (map : List E) (at : ℕ) (got : List E) → got ≡ take (length got) (drop at map) → got ++ drop (at + length got) map ≡ drop at map
  whole_from map at got taken =
      ap (λ (g : List E). g ++ drop (at + length got) map) taken ∙ ap (λ (r : List E). take (length got) (drop at map) ++ r) (sym (drop-drop (length got) at map))
      ∙ take-append-drop (length got) (drop at map)

  pub fits_from : (map : List E) (at : ℕ) (got : List E) → at ≤ length map → got ≡ take (length got) (drop at map) → at + length got ≤ length map
  fits_from map at got le taken = omega (arith, within_front got (drop at map) taken, length-drop at map)

  pub walk_from : (map : List E) (at : ℕ) (got : List E) → at ≤ length map → 0 < length got → got ≡ take (length got) (drop at map) → IsWalk map got (at + length got)
  walk_from map at got le some taken = record { within = fits_from map at got le taken; some = λ lt. some }

  -- what is left after the first pair of a block
  pub step_rest : (map block rest : List E) (next : ℕ) → 0 < length block → rest ≡ drop 1 block → rest ++ drop next map ≡ drop 1 (block ++ drop next map)
  step_rest map [] rest next some r = absurd (omega arith)
  step_rest map (x ∷ block) rest next some r = ap (λ (m : List E). m ++ drop next map) r

  -- after the last pair of a block the next block goes on
  pub step_over : (map block rest : List E) (next : ℕ) → 0 < length block → rest ≡ drop 1 block → length rest ≡ 0 → drop next map ≡ drop 1 (block ++ drop next map)
  step_over map [] rest next some r none = absurd (omega arith)
  step_over map (x ∷ []) rest next some r none = refl
  step_over map (x ∷ y ∷ block) rest next some r none = let n : length rest ≡ length (y ∷ block) = ap length r in absurd (omega arith)

  ended : (map : List E) (next : ℕ) → IsWalk map [] next → (next < length map) ⊎ (length map ≤ next) → length map ≤ next
  ended map next walk (inl lt) = absurd (omega (arith, walk.some lt))
  ended map next walk (inr le) = le

  -- at the end nothing is left
  pub at_end : (map block : List E) (next : ℕ) → IsWalk map block next → length block ≡ 0 → block ++ drop next map ≡ []
  at_end map [] next walk none = drop_all next map (ended map next walk (cases_lt next (length map)))
  at_end map (x ∷ block) next walk none = absurd (omega arith)

  -- the first of a list
  pub none_first : (list : List E) → length list < 1 → None ≡ first_of list
  none_first [] lt = refl
  none_first (x ∷ list) lt = absurd (omega arith)

  pub one_first : (list : List E) (x : E) → 1 ≤ length list → x ≡ get_or list 0 x → Some x ≡ first_of list
  one_first [] x le e = absurd (omega arith)
  one_first (y ∷ list) x le e = ap (λ (z : E). Some z) e

  -- a walk's first pair is its block's
  pub first_is : (map block : List E) (next : ℕ) → IsWalk map block next → first_of block ≡ first_of (block ++ drop next map)
  first_is map [] next walk = ap first_of (sym (at_end map [] next walk refl))
  first_is map (x ∷ block) next walk = refl

  -- nothing is left after nothing
  pub none_after : (list now : List E) → list ≡ [] → now ≡ list → now ≡ drop 1 list
  none_after list now none same = same ∙ none ∙ ap (drop 1) (sym none)

  -- the last part of a list
  pub last_part : (list rest : List E) (at : ℕ) → at < length list → rest ≡ drop at list → (0 < length rest) × (rest ≡ take (length rest) (drop at list))
  last_part list rest at lt r = (
    omega (arith, ap length r, length-drop at list),
    rw r (sym (take_all (length (drop at list)) (drop at list) (omega arith))),
  )
