-- What the answers of a keeper say, and what one append may have done.
use Rattle.std.specs.Prelude.{◌≡◌, ◌≤◌, ◌⊎◌, ◌||◌, Bool, nat_eq, ℕ, List, [], ◌∷◌, ◌++◌, Option, Some, Result, Ok, Err}
use Rattle.cat_io.specs.Causes.{Rose}
use Rattle.cat_keeper.specs.declared.fault.KeepFault.{KeepFault}
use Rattle.cat_keeper.specs.declared.fault.KeepFault.TheVariants.{Fault, Down, NoMemory}

-- `Fault` has raised the count of faults, which stays at each other answer
abbrev pub HasKeepCause : {T : Type 0} → ℕ → ℕ → Result T KeepFault → Type 0
HasKeepCause before now (Ok x) = now ≡ before
HasKeepCause before now (Err Fault) = (before ≤ now) × Rose before now
HasKeepCause before now (Err (Down c)) = now ≡ before
HasKeepCause before now (Err NoMemory) = now ≡ before

-- an image recovers to the payloads, or to these and one more
abbrev pub WithOrWithout : List (List ℕ) → List ℕ → Option (List (List ℕ)) → Type 0
WithOrWithout ps p c = (c ≡ Some ps) ⊎ (c ≡ Some (ps ++ p ∷ []))

-- a format is 1 or 2
abbrev pub is_format : ℕ → Bool
is_format n = nat_eq n 1 || nat_eq n 2
