-- The path form of keys, and the keys above a key.
use Rattle.std.specs.Prelude.{◌≡◌, ℕ, ◌-◌, List, [], ◌∷◌, ◌++◌, length, map, take, if◌then◌else◌, ◌==◌, Ok}
use Rattle.std.specs.List.{flat_map}
use Rattle.cat_names.specs.Fields.{Key, key_of, pieces}

-- how a byte of an element stands in a path: a dot as U+001D
abbrev pub escaped : ℕ → ℕ
escaped b = if b == 46 then 29 else b

abbrev pub escaped_element : List ℕ → List ℕ
escaped_element element = map escaped element

-- the elements with a dot between two of them
abbrev pub path_form : Key → List ℕ
path_form [] = []
path_form (first ∷ others) = escaped_element first ++ flat_map (λ element. 46 ∷ escaped_element element) others

-- all its elements but the last
abbrev pub parent_of : Key → Key
parent_of key = take (length key - 1) key

-- the path stands for the key, and for no other
abbrev pub IsPathOf : List ℕ → Key → Type 0
IsPathOf path key = key_of (pieces path) ≡ Ok key
