-- The pairs of maps that may have none.
use Rattle.std.specs.Prelude.{[], Option, Some, None}
use Rattle.cat_model.specs.Maps.{Map}

-- these pairs, if there are any
abbrev pub pairs_of : Option Map → Map
pairs_of None = []
pairs_of (Some pairs) = pairs
