-- What holds of each element of lists that are put together.
use Rattle.std.proofs.Common.{◌≡◌, ◌⊎◌, inl, inr, ℕ, zero, suc, ◌+◌, ◌<◌, ◌≤◌, List, [], ◌∷◌, ◌++◌, length, get_or, take, drop, refl, ap, arith}
use Rattle.std.proofs.lemmas.Bool.{cases_lt}
use Rattle.std.specs.List.{AllByRecursion}

-- what isn't below is at least as great
pub not_below : (a b : ℕ) → (a < b → ⊥) → b ≤ a
not_below a b other = by_order (cases_lt a b)
  where
    by_order : (a < b) ⊎ (b ≤ a) → b ≤ a
    by_order (inl lt) = absurd (other lt)
    by_order (inr le) = le

module _ {X : Type 0} (P : X → Type 0) where
  pub all_append : (a b : List X) → AllByRecursion P a → AllByRecursion P b → AllByRecursion P (a ++ b)
  all_append [] b h g = g
  all_append (x ∷ a) b h g = (h.0, all_append a b h.1 g)

  pub all_front : (a b : List X) → AllByRecursion P (a ++ b) → AllByRecursion P a
  all_front [] b h = tt
  all_front (x ∷ a) b h = (h.0, all_front a b h.1)

  pub all_back : (a b : List X) → AllByRecursion P (a ++ b) → AllByRecursion P b
  all_back [] b h = h
  all_back (x ∷ a) b h = all_back a b h.1

  pub all_take : (n : ℕ) (a : List X) → AllByRecursion P a → AllByRecursion P (take n a)
  all_take zero a h = tt
  all_take (suc n) [] h = tt
  all_take (suc n) (x ∷ a) h = (h.0, all_take n a h.1)

  pub all_drop : (n : ℕ) (a : List X) → AllByRecursion P a → AllByRecursion P (drop n a)
  all_drop zero a h = h
  all_drop (suc n) [] h = tt
  all_drop (suc n) (x ∷ a) h = all_drop n a h.1

  pub all_at : (a : List X) (i : ℕ) (x : X) → i < length a → x ≡ get_or a i x → AllByRecursion P a → P x
  all_at [] i x lt e h = absurd (omega arith)
  all_at (y ∷ a) zero x lt e h = rw e h.0
  all_at (y ∷ a) (suc i) x lt e h = all_at a i x (omega arith) e h.1

module _ {X : Type 0} where
  -- the element at a place, and the others from there on
  pub drop_at : (a : List X) (i : ℕ) (x : X) → i < length a → x ≡ get_or a i x → drop i a ≡ x ∷ drop (i + 1) a
  drop_at [] i x lt e = absurd (omega arith)
  drop_at (y ∷ a) zero x lt e = rw e refl
  drop_at (y ∷ a) (suc i) x lt e = let k : suc i + 1 ≡ suc (i + 1) = omega arith in rw k (drop_at a i x (omega arith) e)

  pub take_at : (a : List X) (i : ℕ) (x : X) → i < length a → x ≡ get_or a i x → take (i + 1) a ≡ take i a ++ x ∷ []
  take_at [] i x lt e = absurd (omega arith)
  take_at (y ∷ a) zero x lt e = rw e refl
  take_at (y ∷ a) (suc i) x lt e = let k : suc i + 1 ≡ suc (i + 1) = omega arith in rw (k, take_at a i x (omega arith) e) refl

  pub take_drop : (n : ℕ) (xs : List X) → xs ≡ take n xs ++ drop n xs
  take_drop zero xs = refl
  take_drop (suc n) [] = refl
  take_drop (suc n) (x ∷ xs) = ap (λ (l : List X). x ∷ l) (take_drop n xs)

  pub length_of_take : (n : ℕ) (xs : List X) → n ≤ length xs → length (take n xs) ≡ n
  length_of_take zero xs le = refl
  length_of_take (suc n) [] le = absurd (omega arith)
  length_of_take (suc n) (x ∷ xs) le = ap suc (length_of_take n xs (omega arith))

  pub length_of_drop : (n : ℕ) (xs : List X) → n ≤ length xs → length (drop n xs) + n ≡ length xs
  length_of_drop zero xs le = omega arith
  length_of_drop (suc n) [] le = absurd (omega arith)
  length_of_drop (suc n) (x ∷ xs) le = omega (arith, length_of_drop n xs (omega arith))

  -- two parts of a list, of which the first has so many elements
  pub seam : (n : ℕ) (front back whole : List X) → front ++ back ≡ whole → length front ≡ n → (front ≡ take n whole) × (back ≡ drop n whole)
  seam zero [] back whole e l = (refl, e)
  seam zero (x ∷ front) back whole e l = absurd (omega arith)
  seam (suc n) [] back whole e l = absurd (omega arith)
  seam (suc n) (x ∷ front) back whole e l =
      let parts = seam n front back (front ++ back) refl (omega arith) in
      rw (← e) (ap (λ (a : List X). x ∷ a) parts.0, parts.1)

  pub no_items : (xs : List X) → length xs ≡ 0 → xs ≡ []
  no_items [] e = refl
  no_items (x ∷ xs) e = absurd (omega arith)
