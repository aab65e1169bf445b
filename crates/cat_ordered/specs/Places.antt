-- What stands below a key in a map, and what above.
use Rattle.std.specs.Prelude.{ℕ, suc, List, [], ◌∷◌}
use Rattle.std.specs.declared.cmp.Ordering.{Ordering}
use Rattle.std.specs.declared.cmp.Ordering.TheVariants.{Less, Equal, Greater}

-- one more where the first key is below
abbrev pub step : Ordering → ℕ → ℕ
step Less n = suc n
step Equal n = 0
step Greater n = 0

-- how many keys are below, up to the first that isn't
abbrev pub place_of : {K V : Type 0} → (K → K → Ordering) → List (K × V) → K → ℕ
place_of cmp [] key = 0
place_of cmp (x ∷ map) key = step (cmp x.0 key) (place_of cmp map key)

abbrev pub below_by : {K V : Type 0} → Ordering → K × V → List (K × V) → List (K × V)
below_by Less x rest = x ∷ rest
below_by Equal x rest = []
below_by Greater x rest = []

-- the pairs below the key
abbrev pub below : {K V : Type 0} → (K → K → Ordering) → List (K × V) → K → List (K × V)
below cmp [] key = []
below cmp (x ∷ map) key = below_by (cmp x.0 key) x (below cmp map key)

abbrev pub above_by : {K V : Type 0} → Ordering → K × V → List (K × V) → List (K × V) → List (K × V)
above_by Less x map rest = rest
above_by Equal x map rest = map
above_by Greater x map rest = x ∷ map

-- the pairs above the key
abbrev pub above : {K V : Type 0} → (K → K → Ordering) → List (K × V) → K → List (K × V)
above cmp [] key = []
above cmp (x ∷ map) key = above_by (cmp x.0 key) x map (above cmp map key)
