use Rattle.std.proofs.Common.{ap, ◌∙◌}
use Rattle.cat_ordered.specs.Maps.{first_of}
use Rattle.cat_ordered.proofs.Steps.{first_is}
use Rattle.cat_ordered.proofs.walk.Walk.peek.Goals as goal

pub returns : goal.returns
returns g c = c.first_pair.ensures ∙ first_is c.self.inside.map.now c.self.inside.block.now c.self.inside.next c.self.invariant ∙ ap first_of c.self.view_is
