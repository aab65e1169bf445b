-- A keeper whose bytes stay as they were while nothing is added to it.
use Rattle.std.specs.Prelude.{◌≡◌, ◌≤◌, ◌⊎◌, ℕ, List, length, Option, Some, None, IfSome}

-- how many payloads are told
abbrev pub count_told : Option (List (List ℕ)) → ℕ
count_told None = 0
count_told (Some ps) = length ps

-- `past` is what a crash since a moment might have left as the keeper was given here, and `began` what one left just then. As long as there are only so many payloads, and none is in flight, it leaves no other bytes.
pub record IsStillSo (since count : ℕ) (past : ℕ → List ℕ → Type 0) (began : List ℕ → Type 0) (flying : Option (List ℕ)) (moment : ℕ) (bytes_left : List ℕ → Type 0) (bytes_since : ℕ → List ℕ → Type 0) (ps : List (List ℕ)) : Type 0 where
  pub later : since ≤ moment
  pub many : count ≤ length ps
  pub left : flying ≡ None → length ps ≡ count → (b : List ℕ) → bytes_left b → began b
  pub each : flying ≡ None → length ps ≡ count → (t : ℕ) (b : List ℕ) → t ≤ since → bytes_since t b → past t b ⊎ began b

-- of a format nothing is said
abbrev pub any_shape : ℕ → Type 0
any_shape n = Unit {0}

-- so it is of a keeper, where its payloads are told
abbrev pub IsStill : {K : Type 0} → (K → Option (List (List ℕ))) → (K → Option (List ℕ)) → (K → ℕ) → (K → List ℕ → Type 0) → (K → ℕ → List ℕ → Type 0) → ℕ → ℕ → (ℕ → List ℕ → Type 0) → (List ℕ → Type 0) → K → Type 0
IsStill told in_flight moment bytes_left bytes_since since count past began keeper =
    IfSome (told keeper) (IsStillSo since count past began (in_flight keeper) (moment keeper) (bytes_left keeper) (bytes_since keeper))
