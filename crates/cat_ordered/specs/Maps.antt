-- What an ordered map stands for: pairs of a key and its value, keys ascending.
use Rattle.std.specs.Prelude.{◌≡◌, ℕ, suc, List, [], ◌∷◌, ◌++◌, Bool, true, false, Option, Some, None, if◌then◌else◌}
use Rattle.std.specs.declared.cmp.Ordering.{Ordering}
use Rattle.std.specs.declared.cmp.Ordering.TheVariants.{Less, Equal, Greater}
use Rattle.std.specs.Ordering.{is_eq, is_le, is_lt}
use Rattle.cat_codes.specs.Code.{ascends}

-- keys ascend, each once
abbrev pub IsMap : {K V : Type 0} → (K → K → Ordering) → List (K × V) → Type 0
IsMap cmp map = ascends cmp None map ≡ true

-- the value of a key
abbrev pub value_of : {K V : Type 0} → (K → K → Ordering) → List (K × V) → K → Option V
value_of cmp [] key = None
value_of cmp (x ∷ map) key = if is_eq (cmp x.0 key) then Some x.1 else value_of cmp map key

-- the pair of a key, or none for a key that goes
abbrev pub kept : {K V : Type 0} → K × Option V → Option (K × V)
kept (key, None) = None
kept (key, Some value) = Some (key, value)

-- the pair that a change leaves, or none
abbrev pub present : {K V : Type 0} → K × Option V → List (K × V)
present (key, None) = []
present (key, Some value) = (key, value) ∷ []

-- the change where the map goes on with x, by the order of its key and the change's
abbrev pub placed : {K V : Type 0} → Ordering → K × Option V → K × V → List (K × V) → List (K × V) → List (K × V)
placed Less change x map changed = x ∷ changed
placed Equal change x map changed = present change ++ map
placed Greater change x map changed = present change ++ x ∷ map

-- the map after a change, which is a key and its new value, or none where the key goes
abbrev pub after_change : {K V : Type 0} → (K → K → Ordering) → K × Option V → List (K × V) → List (K × V)
after_change cmp change [] = present change
after_change cmp change (x ∷ map) = placed (cmp x.0 change.0) change x map (after_change cmp change map)

-- the map after changes, from the first on
abbrev pub after_changes : {K V : Type 0} → (K → K → Ordering) → List (K × Option V) → List (K × V) → List (K × V)
after_changes cmp [] map = map
after_changes cmp (change ∷ changes) map = after_changes cmp changes (after_change cmp change map)

-- the first of a list
abbrev pub first_of : {E : Type 0} → List E → Option E
first_of [] = None
first_of (x ∷ list) = Some x

-- the lowest key, of pairs that ascend
abbrev pub first_key : {K V : Type 0} → List (K × V) → Option K
first_key [] = None
first_key (x ∷ map) = Some x.0

-- the pairs begin with a key that isn't above this one
abbrev pub begins_by : {K V : Type 0} → (K → K → Ordering) → List (K × V) → K → Bool
begins_by cmp [] key = false
begins_by cmp (x ∷ map) key = is_le (cmp x.0 key)

-- of changes whose keys ascend, how many come before the pairs that follow
abbrev pub share_of : {K V : Type 0} → (K → K → Ordering) → List (K × Option V) → List (K × V) → ℕ
share_of cmp [] rest = 0
share_of cmp (change ∷ changes) rest = if begins_by cmp rest change.0 then 0 else suc (share_of cmp changes rest)

-- the pairs from a key on
abbrev pub from_key : {K V : Type 0} → (K → K → Ordering) → List (K × V) → K → List (K × V)
from_key cmp [] key = []
from_key cmp (x ∷ map) key = if is_lt (cmp x.0 key) then from_key cmp map key else x ∷ map
