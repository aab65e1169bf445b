-- The catalogue that a view shares with others.
use Rattle.std.specs.Arc.{arc_value}
use Rattle.std.specs.declared.alloc.Global.{Global}
use Rattle.std.specs.declared.sync.Arc.{Arc}
use Rattle.cat_model.specs.State.{State}

-- what the shared memory holds
abbrev pub catalogue_in : Arc State Global → State
catalogue_in shared = arc_value shared
