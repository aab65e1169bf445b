-- Keys within one another.
use Rattle.std.specs.Prelude.{[], ◌∷◌, Bool, true, false, ◌&&◌, not}
use Rattle.std.specs.Str.{bytes_eq}
use Rattle.cat_names.specs.Fields.{Key}
use Rattle.cat_model.specs.Same.{same_key}

-- all elements but the last
abbrev pub parent : Key → Key
parent [] = []
parent (element ∷ []) = []
parent (element ∷ next ∷ key) = element ∷ parent (next ∷ key)

-- the key begins with these elements
abbrev pub begins_with : Key → Key → Bool
begins_with key [] = true
begins_with [] (element ∷ front) = false
begins_with (first ∷ key) (element ∷ front) = bytes_eq first element && begins_with key front

-- the key is below the other one: it properly begins with its elements
abbrev pub is_child : Key → Key → Bool
is_child key above = begins_with key above && not (same_key key above)
