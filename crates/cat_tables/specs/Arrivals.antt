-- Values that are held under their hashes, in the order in which they came.
use Rattle.std.specs.Prelude.{ℕ, zero, suc, List, [], ◌∷◌, ◌++◌, Option, Some, None, length, ◌≤◌, nat_eq, nat_lt, if◌then◌else◌, IsTrue}
use Rattle.std.specs.List.{list_all}
use Rattle.cat_names.specs.declared.hash.Hash.{Hash}
use Rattle.cat_tables.specs.declared.table.Placed.{Placed}
use Rattle.cat_tables.specs.Tables.{are_distinct}

-- the value that came after so many others, under its hash
abbrev pub at_place : {V : Type 0} → ℕ → List (Hash × Placed V) → List (Hash × V)
at_place n [] = []
at_place n (x ∷ placed) = if nat_eq x.1.place n then (x.0, x.1.value) ∷ at_place n placed else at_place n placed

-- the first so many values that came, the newest first
abbrev pub arrived : {V : Type 0} → ℕ → List (Hash × Placed V) → List (Hash × V)
arrived zero placed = []
arrived (suc n) placed = at_place n placed ++ arrived n placed

-- the changes that put these values, the oldest first, after so many others
abbrev pub puts : {V : Type 0} → ℕ → List (Hash × V) → List (Hash × Option (Placed V))
puts n [] = []
puts n (x ∷ items) = (x.0, Some (record { place = n; value = x.1 })) ∷ puts (suc n) items

-- the changes that take away what these hashes have
abbrev pub removes : {V : Type 0} → List Hash → List (Hash × Option (Placed V))
removes [] = []
removes (hash ∷ hashes) = (hash, None) ∷ removes hashes

-- each value came before the next one, no hash comes twice, and no two came at one place
pub record IsPlaced {V : Type 0} (next : ℕ) (placed : List (Hash × Placed V)) : Type 0 where
  pub below : IsTrue (list_all (λ x. nat_lt x.1.place next) placed)
  pub distinct : IsTrue (are_distinct (arrived next placed))
  pub alone : (i : ℕ) → length (at_place i placed) ≤ 1
