-- What a listener gives and takes back, and what its calls leave as it was.
use Rattle.std.specs.Prelude.{◌≡◌, ◌<◌, ◌≤◌, ℕ, Bool, IsTrue, List, [], ◌∷◌, ◌++◌, length, drop, Option, Some, None, Result, Ok, Err, OnOk}

-- an accept gives the first of the connections to come, and none exactly where none is left; one that fails takes none
abbrev pub Gives : {C E : Type 0} → List C → List C → Result (Option C) E → Type 0
Gives old new (Ok (Some c)) = old ≡ c ∷ new
Gives old new (Ok None) = (old ≡ []) × (new ≡ [])
Gives old new (Err e) = new ≡ old

-- how many connections an accept gave
abbrev pub count_given : {C E : Type 0} → Result (Option C) E → ℕ
count_given (Ok (Some c)) = 1
count_given (Ok None) = 0
count_given (Err e) = 0

-- how many twins a call made
abbrev pub count_made : {A E : Type 0} → Result A E → ℕ
count_made (Ok twin) = 1
count_made (Err e) = 0

-- the first of what twins are dealt, and nothing where none is left
abbrev pub first_of : {C : Type 0} → List (List C) → List C
first_of [] = []
first_of (group ∷ groups) = group

-- a new twin is given the first of what twins are dealt, and the rest is left for those to come
pub record Deals {L C : Type 0} (coming : L → List C) (old new : List (List C)) (twin : L) : Type 0 where
  pub given : coming twin ≡ first_of old
  pub rest : new ≡ drop 1 old

-- a listener that tells, tells what `listen` was handed; where that failed, an address of up to 512 bytes
pub record Hears {T E : Type 0} (tells : Bool) (result : Result T E) (address : List ℕ) (connections : ℕ) (told : Option (List ℕ × ℕ)) : Type 0 where
  pub listening : IsTrue tells → OnOk result (told ≡ Some (address, connections))
  pub short : IsTrue tells → length address ≤ 512 → told ≡ Some (address, connections)

-- one that was out stands behind those that came back before
abbrev pub TakesBack : {C : Type 0} → Bool → ℕ → List C → List C → C → Type 0
TakesBack tells away old new c = IsTrue tells → 0 < away → new ≡ old ++ c ∷ []

-- whether a listener tells stays, and what its last `listen` was handed
pub record Stands {L : Type 0} (told : L → Bool) (heard : L → Option (List ℕ × ℕ)) (old new : L) : Type 0 where
  pub tells : told new ≡ told old
  pub listens : heard new ≡ heard old

-- a listener's own connections stay: those to come, those that came back, and how many are out
pub record OwnStay {L C : Type 0} (coming back : L → List C) (away : L → ℕ) (old new : L) : Type 0 where
  pub waiting : coming new ≡ coming old
  pub returned : back new ≡ back old
  pub out : away new ≡ away old

-- those of its twins that came back stay, how many twins are out, and what those to come are dealt
pub record TwinsStay {L C : Type 0} (back : L → List (List C)) (away : L → ℕ) (next : L → List (List C)) (old new : L) : Type 0 where
  pub rejoined : back new ≡ back old
  pub twins : away new ≡ away old
  pub dealt : next new ≡ next old

-- a listener that heard of no address, and gave and took back nothing
pub record IsFresh {L C : Type 0} (heard : L → Option (List ℕ × ℕ)) (back : L → List C) (away : L → ℕ) (l : L) : Type 0 where
  pub listens : heard l ≡ None
  pub returned : back l ≡ []
  pub out : away l ≡ 0
