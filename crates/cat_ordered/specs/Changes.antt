-- What a change says.
use Rattle.std.specs.Prelude.{Option, Some, None}
use Rattle.cat_ordered.specs.declared.change.Left.{Left}
use Rattle.cat_ordered.specs.declared.change.Left.TheVariants.{Put, Gone}

-- a key and its new value, or none where the key goes
abbrev pub said : {K V : Type 0} → Left K V → K × Option V
said (Put pair) = (pair.0, Some pair.1)
said (Gone key) = (key, None)
