-- Values under hashes.
use Rattle.std.specs.Prelude.{ℕ, List, [], ◌∷◌, Option, Some, None, Bool, true, ◌&&◌, ◌≡◌, is_none, if◌then◌else◌, length, IsTrue}
use Rattle.std.specs.Map.{lookup}
use Rattle.std.specs.Str.{bytes_eq}
use Rattle.cat_names.specs.declared.hash.Hash.{Hash}

-- values under hashes, the newest first, and how many more can be pushed without memory
pub record Recorded (V : Type 0) : Type 0 where
  pub list : List (Hash × V)
  pub spare : ℕ

-- the same hash
abbrev pub same_hash : Hash → Hash → Bool
same_hash a b = bytes_eq a.bytes b.bytes

-- the value of a hash
abbrev pub value_of : {V : Type 0} → List (Hash × V) → Hash → Option V
value_of [] hash = None
value_of (x ∷ older) hash = if same_hash x.0 hash then Some x.1 else value_of older hash

-- no hash comes twice
abbrev pub are_distinct : {V : Type 0} → List (Hash × V) → Bool
are_distinct [] = true
are_distinct (x ∷ older) = is_none (value_of older x.0) && are_distinct older

-- how many values were added before the one of a hash
abbrev pub place_of : {V : Type 0} → List (Hash × V) → Hash → Option ℕ
place_of [] hash = None
place_of (x ∷ older) hash = if same_hash x.0 hash then Some (length older) else place_of older hash

-- no hash comes twice, and each is looked up at its place
pub record IsIndexed {V : Type 0} (list : List (Hash × V)) (places : List (Hash × ℕ)) : Type 0 where
  pub distinct : IsTrue (are_distinct list)
  pub found : (hash : Hash) → lookup (same_hash hash) places ≡ place_of list hash
