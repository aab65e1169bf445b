-- Values by their hashes, and by the places at which they came.
use Rattle.std.specs.Prelude.{◌≡◌, List, [], ◌∷◌, reverse, Option, Some, None}
use Rattle.std.specs.List.{flat_map}
use Rattle.std.specs.Option.{option_map}
use Rattle.std.proofs.Common.{Bor}
use Rattle.cat_names.specs.declared.hash.Hash.{Hash}
use Rattle.cat_model.specs.KeySets.{set_of}
use Rattle.cat_tables.specs.HashOrder.{hash_cmp}

-- values under distinct hashes, hashes ascending
abbrev pub sorted : {V : Type 0} → List (Hash × V) → List (Hash × V)
sorted list = set_of (λ x y. hash_cmp x.0 y.0) list

-- what stands at a place, where something does
abbrev pub as_pair : {V : Type 0} → Option (Bor Hash × Bor V) → Option (Hash × V)
as_pair slot = option_map (λ x. (x.0.now, x.1.now)) slot

abbrev pub if_there : {A : Type 0} → Option A → List A
if_there None = []
if_there (Some x) = x ∷ []

-- what stands at the places, one after another, is the list, whose newest value comes first
abbrev pub AreAtPlaces : {V : Type 0} → List (Option (Hash × V)) → List (Hash × V) → Type 0
AreAtPlaces slots list = flat_map if_there slots ≡ reverse list
