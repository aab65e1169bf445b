-- What a crash might have left since a moment, over many calls.
use Rattle.std.specs.Prelude.{◌≡◌, ◌≤◌, ◌⊎◌, ℕ, List, [], ◌∷◌, ◌++◌, length, take, Option, Some, None, IfSome}

-- the payloads, and behind them the one of an append that failed
abbrev pub with_flying : List (List ℕ) → Option (List ℕ) → List (List ℕ)
with_flying ps None = ps
with_flying ps (Some p) = ps ++ p ∷ []

-- so many of the payloads at least, and those in front of others
abbrev pub IsFrontOf : ℕ → List (List ℕ) → Option (List (List ℕ)) → Type 0
IsFrontOf least ps c = (n : ℕ) × (least ≤ n) × (n ≤ length ps) × (c ≡ Some (take n ps))

-- payloads go on from others
abbrev pub GoOn : List (List ℕ) → List (List ℕ) → Type 0
GoOn had ps = (more : List (List ℕ)) × (ps ≡ had ++ more)

-- The payloads go on from those that there were. Since a moment a crash might have left what it might before, or bytes that recover to a front of the payloads that has those; where an append failed, its payload counts as the last.
pub record IsWatchedSo (stands_for : List ℕ → Option (List (List ℕ))) (since : ℕ) (had : List (List ℕ)) (before : List ℕ → Type 0) (flying : Option (List ℕ)) (moment : ℕ) (bytes_since : ℕ → List ℕ → Type 0) (ps : List (List ℕ)) : Type 0 where
  pub later : since ≤ moment
  pub goes_on : GoOn had ps
  pub each : (b : List ℕ) → bytes_since since b → before b ⊎ IsFrontOf (length had) (with_flying ps flying) (stands_for b)

-- so it is of a keeper, where its payloads are told
abbrev pub IsWatched : {K : Type 0} → (K → Option (List (List ℕ))) → (K → Option (List ℕ)) → (K → ℕ) → (List ℕ → Option (List (List ℕ))) → (K → ℕ → List ℕ → Type 0) → ℕ → List (List ℕ) → (List ℕ → Type 0) → K → Type 0
IsWatched told in_flight moment stands_for bytes_since since had before keeper =
    IfSome (told keeper) (IsWatchedSo stands_for since had before (in_flight keeper) (moment keeper) (bytes_since keeper))
