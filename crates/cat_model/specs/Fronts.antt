-- What names of references begin with.
use Rattle.std.specs.Prelude.{ℕ, List, ◌++◌, Bool, ◌||◌, Option, Some, None, if◌then◌else◌, codes}
use Rattle.cat_names.specs.RefNames.{is_reference_name}

-- a name begins so: it is one as it stands, or with a letter behind it
abbrev pub is_front : List ℕ → Bool
is_front text = is_reference_name text || is_reference_name (text ++ codes "a")

-- the front that a text is
abbrev pub front_of : List ℕ → Option (List ℕ)
front_of text = if is_front text then Some text else None
