-- The first and the last of lists.
use Rattle.std.proofs.Common.{◌≡◌, ℕ, zero, suc, ◌+◌, ◌-◌, List, [], ◌∷◌, length, take, drop, refl, ap, ◌∙◌, arith}
use Rattle.std.specs.List.{slice_get}
use Rattle.std.proofs.lemmas.List.{drop-take}
use Rattle.cat_model.specs.Pages.{first, last}

module _ {X : Type 0} where
  last_at : (x : X) (xs : List X) → slice_get (x ∷ xs) (length xs) ≡ last (x ∷ xs)
  last_at x [] = refl
  last_at x (y ∷ xs) = last_at y xs

  pub last_is : (xs : List X) → slice_get xs (length xs - 1) ≡ last xs
  last_is [] = refl
  last_is (x ∷ xs) = let e : length (x ∷ xs) - 1 ≡ length xs = omega arith in rw e (last_at x xs)

  pub first_at : (n : ℕ) (xs : List X) → slice_get xs n ≡ first (drop n xs)
  first_at zero [] = refl
  first_at zero (x ∷ xs) = refl
  first_at (suc n) [] = refl
  first_at (suc n) (x ∷ xs) = first_at n xs

  first_one : (xs : List X) → first (take 1 xs) ≡ first xs
  first_one [] = refl
  first_one (x ∷ xs) = refl

  -- one more than is shown tells what follows
  pub first_of_more : (n : ℕ) (xs : List X) → first (drop n (take (n + 1) xs)) ≡ first (drop n xs)
  first_of_more n xs = ap first (drop-take n 1 xs) ∙ first_one (drop n xs)
