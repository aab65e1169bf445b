-- Each element that may be drawn makes a key.
use Rattle.std.proofs.Common.{◌≡◌, ℕ, zero, suc, ◌<◌, ◌+◌, ◌∷◌, [], ◌++◌, ◌%◌, Bool, true, false, ◌&&◌, Result, Ok, Err, refl, sym, subst, ◌∙◌, ap, arith}
use Rattle.std.specs.Prelude.{codes}
use Rattle.std.specs.Fmt.{decimal, digits}
use Rattle.std.proofs.Math.Nat.{mod-lt}
use Rattle.cat_names.specs.Fields.{Key, GivesKey, key_of, is_path}
use Rattle.cat_names.specs.declared.key_fault.KeyFault.{KeyFault}
use Rattle.cat_names.specs.declared.key_fault.KeyFault.TheVariants.{Empty, TooMany, Control, TooLong, NoMemory}
use Rattle.cat_drill.specs.Steps.{drawn_key}

abbrev is_made : Result Key KeyFault → Bool
is_made (Ok key) = true
is_made (Err fault) = false

abbrev makes_key : ℕ → Bool
makes_key n = is_made (key_of ((codes "t" ++ decimal n) ∷ []))

abbrev all_make : ℕ → ℕ → Bool
all_make zero from = true
all_make (suc count) from = makes_key from && all_make count (suc from)

-- computed for each number that is drawn
all : all_make 1000 0 ≡ true
unfolding digits key_of is_path
all = refl

first : (a b : Bool) → (a && b) ≡ true → a ≡ true
first true b e = refl
first false b e = e

second : (a b : Bool) → (a && b) ≡ true → b ≡ true
second true b e = e
second false b e = cc

at : (count from i : ℕ) → all_make count from ≡ true → i < count → makes_key (from + i) ≡ true
at zero from i e lt = absurd (omega arith)
at (suc count) from zero e lt =
    subst (λ n. makes_key n ≡ true) (omega arith) (first _ _ e)
at (suc count) from (suc i) e lt =
    subst (λ n. makes_key n ≡ true) (omega arith) (at count (suc from) i (second (makes_key from) _ e) (omega arith))

made_by : (n : ℕ) → n < 1000 → makes_key n ≡ true
made_by n lt = subst (λ k. makes_key k ≡ true) (omega arith) (at 1000 0 n all lt)

by_fault : (fault : KeyFault) (made : Result Key KeyFault) → (fault ≡ NoMemory → ⊥) → is_made made ≡ true → GivesKey (Err fault) made → ⊥
by_fault Empty made other e p = let t : true ≡ false = sym e ∙ ap is_made p in cc
by_fault TooMany made other e p = let t : true ≡ false = sym e ∙ ap is_made p in cc
by_fault Control made other e p = let t : true ≡ false = sym e ∙ ap is_made p in cc
by_fault TooLong made other e p = let t : true ≡ false = sym e ∙ ap is_made p in cc
by_fault NoMemory made other e p = other refl

-- want of memory alone keeps the drawn element from being a key
pub no_fault : (r : ℕ) (elements : Key) (fault : KeyFault) → (fault ≡ NoMemory → ⊥) → elements ≡ drawn_key r → GivesKey (Err fault) (key_of elements) → ⊥
no_fault r elements fault other drawn p =
    by_fault fault (key_of elements) other (ap (λ key. is_made (key_of key)) drawn ∙ made_by (r % 1000) (mod-lt r (omega arith))) p
