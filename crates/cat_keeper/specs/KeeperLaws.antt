-- What the laws of keepers rest on.
use Rattle.std.specs.Prelude.{◌≡◌, ◌≢◌, ◌||◌, Bool, true, false, nat_eq, ℕ, List, length, Option, Some, None}
use Rattle.std.proofs.Common.{ap, arith, refl, sym}
use Rattle.std.proofs.lemmas.Bool.Decides.{nat_tests}
use Rattle.std.specs.Option.{option_map}
use Rattle.cat_keeper.specs.Bases.{entries_of, first_of}
use Rattle.cat_keeper.specs.Keeping.{is_format}

pub told_is : {A : Type 0} (x y : A) → Some x ≡ Some y → x ≡ y
told_is x y e = cc

pub told_count : (held ps : List (List ℕ)) → Some held ≡ Some ps → length (entries_of ps) ≡ length (entries_of held)
told_count held ps told = ap (λ (l : List (List ℕ)). length (entries_of l)) (sym (told_is held ps told))

pub told_first : (held ps : List (List ℕ)) → Some held ≡ Some ps → first_of ps ≡ first_of held
told_first held ps told = ap first_of (sym (told_is held ps told))

-- nothing is in flight where no append failed
pub none_flies : {A B : Type 0} (p : B) (down : Option A) → down ≡ None → option_map (λ (c : A). p) down ≡ None
none_flies p down up = ap (λ d. option_map (λ c. p) d) up

-- and something is, where one did
pub one_flies : {A B : Type 0} (p : B) (down : Option A) (c : A) → down ≡ Some c → (q : B) × (option_map (λ (d : A). p) down ≡ Some q)
one_flies p down c is = (p, ap (λ d. option_map (λ x. p) d) is)

-- a format that isn't 2 is 1
pub old_format : (n : ℕ) → is_format n ≡ true → n ≢ 2 → n ≡ 1
old_format n is other = by (nat_eq n 1) (nat_eq n 2) refl refl is
  where
    by : (one two : Bool) → nat_eq n 1 ≡ one → nat_eq n 2 ≡ two → (one || two) ≡ true → n ≡ 1
    by true two e f either = grind (arith, nat_tests, e)
    by false true e f either = absurd (other (grind (arith, nat_tests, f)))
    by false false e f either = absurd cc
