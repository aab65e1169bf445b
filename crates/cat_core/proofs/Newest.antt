-- The newest entry of a log.
use Rattle.std.proofs.Common.{◌≡◌, ◌+◌, ◌-◌, List, [], ◌∷◌, ◌++◌, length, reverse, Some, refl, sym, subst, arith}
use Rattle.std.specs.List.{slice_get}
use Rattle.std.proofs.lemmas.List.{length-append, reverse-append, reverse-reverse}
use Rattle.cat_model.specs.Pages.{first}

module _ {X : Type 0} where
  at_end : (xs : List X) (x : X) → slice_get (xs ++ x ∷ []) (length xs) ≡ Some x
  at_end [] x = refl
  at_end (y ∷ xs) x = at_end xs x

  last_place : (xs : List X) (x : X) → length (xs ++ x ∷ []) - 1 ≡ length xs
  last_place xs x = let more : length (xs ++ x ∷ []) ≡ length xs + 1 = length-append xs (x ∷ []) in omega (arith, more)

  of_reversed : (xs : List X) → slice_get (reverse xs) (length (reverse xs) - 1) ≡ first xs
  of_reversed [] = refl
  of_reversed (x ∷ xs) =
      subst (λ (l : List X). slice_get l (length l - 1) ≡ Some x) (sym (reverse-append (x ∷ []) xs)) (rw (last_place (reverse xs) x) (at_end (reverse xs) x))

  -- the last of the entries is the first of them turned round
  pub newest_is : (xs : List X) → slice_get xs (length xs - 1) ≡ first (reverse xs)
  newest_is xs = subst (λ (l : List X). slice_get l (length l - 1) ≡ first (reverse xs)) (reverse-reverse xs) (of_reversed (reverse xs))
