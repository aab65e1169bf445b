-- Pieces of a map, and lists of pieces that a map is made of.
use Rattle.std.specs.Prelude.{◌≡◌, ◌⊎◌, ℕ, ◌+◌, ◌<◌, ◌≤◌, List, [], ◌∷◌, ◌++◌, length, take, drop, nat_le, if◌then◌else◌}
use Rattle.std.specs.List.{flat_map, AllByRecursion}
use Rattle.std.specs.declared.cmp.Ordering.{Ordering}
use Rattle.cat_ordered.specs.Maps.{IsMap}

-- the entries of a piece, and of how many parts it is made
pub record Shape (K V : Type 0) : Type 0 where
  pub entries : List (K × V)
  pub size : ℕ

-- a piece has entries, 1 to 64 parts, and at least so many entries where it has 16 parts or more
pub record IsPiece {E : Type 0} (entries : List E) (size least : ℕ) : Type 0 where
  pub some : 0 < length entries
  pub full : 0 < size
  pub fits : size ≤ 64
  pub heavy : 16 ≤ size → least ≤ length entries

module _ {E T : Type 0} (entries : T → List E) (size : T → ℕ) (least : ℕ) where
  abbrev pub ArePieces : List T → Type 0
  ArePieces list = AllByRecursion (λ x. IsPiece (entries x) (size x) least) list

  -- each has 16 parts or more
  abbrev pub AreLarge : List T → Type 0
  AreLarge list = AllByRecursion (λ x. 16 ≤ size x) list

  -- 16 to 64 parts in each piece where there are two or more
  pub record AreFine (list : List T) : Type 0 where
    pub pieces : ArePieces list
    pub large : 2 ≤ length list → AreLarge list

  -- how many entries may still be copied until each piece has 16 parts
  abbrev pub debt : List T → ℕ
  debt [] = 0
  debt (x ∷ list) = if nat_le 16 (size x) then debt list else 128

  -- the list makes this map
  pub record Makes (map : List E) (list : List T) : Type 0 where
    pub whole : flat_map entries list ≡ map
    pub fine : AreFine list

  -- the list stands in place of two neighbours
  pub record Joins (a b : T) (list : List T) : Type 0 where
    pub whole : flat_map entries list ≡ entries a ++ entries b
    pub fine : AreFine list
    pub large : (16 ≤ size a) ⊎ (16 ≤ size b) → AreLarge list

  -- the list is an older one and a piece, and so many entries were copied
  pub record Appends (old : List T) (next : T) (list : List T) (copied : ℕ) : Type 0 where
    pub whole : flat_map entries list ≡ flat_map entries old ++ entries next
    pub fine : AreFine list
    pub large : 16 ≤ size next → AreLarge list
    pub some : 1 ≤ length list
    pub longer : length old ≤ length list
    pub one_more : AreLarge old → 16 ≤ size next → length list ≡ length old + 1
    pub few : copied ≤ 128
    pub level : 16 ≤ size next → copied + debt list ≤ debt old
    pub spent : copied + debt list ≤ debt old + 128

  -- the list is an older one and more pieces, and so many entries were copied
  pub record AppendsAll (old more list : List T) (copied : ℕ) : Type 0 where
    pub whole : flat_map entries list ≡ flat_map entries old ++ flat_map entries more
    pub fine : AreFine list
    pub longer : length old ≤ length list
    pub long : length more ≤ length list
    pub few : copied ≤ 128
    pub level : AreLarge more → copied + debt list ≤ debt old
    pub spent : copied + debt list ≤ debt old + 128

  -- the list is made of others, among which more pieces stand at a place
  pub record Inserts (others : List T) (i : ℕ) (more list : List T) : Type 0 where
    pub whole : flat_map entries list ≡ flat_map entries (take i others) ++ (flat_map entries more ++ flat_map entries (drop i others))
    pub fine : AreFine list

  -- the list is what a longer one of so many parts was cut into
  pub record Cuts (map : List E) (parts : ℕ) (list : List T) : Type 0 where
    pub whole : flat_map entries list ≡ map
    pub fine : AreFine list
    pub large : 16 ≤ parts → AreLarge list

-- the pieces of an ordered map, and how many entries it has
pub record IsOrdered {K V T : Type 0} (cmp : K → K → Ordering) (entries : T → List (K × V)) (size : T → ℕ) (least : ℕ) (list : List T) (len : ℕ) : Type 0 where
  pub map : IsMap cmp (flat_map entries list)
  pub fine : AreFine entries size least list
  pub count : len ≡ length (flat_map entries list)

-- the pieces of a run, and how many entries it has
pub record IsRun {E T : Type 0} (entries : T → List E) (size : T → ℕ) (least : ℕ) (list : List T) (len : ℕ) : Type 0 where
  pub fine : AreFine entries size least list
  pub count : len ≡ length (flat_map entries list)
