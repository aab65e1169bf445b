use Rattle.std.proofs.Common.{◌+◌}
use Rattle.cat_model.specs.Base.{common_ancestors, is_among}
use Rattle.cat_graph.specs.Fronts.{ways}
use Rattle.cat_graph.proofs.Meeting.{Sides}
use Rattle.cat_graph.proofs.graph.Graph.base.Given as goal

abbrev pub invariant-loop-left_at : goal.invariant-loop-left_at
invariant-loop-left_at l = Sides l.self (is_among (common_ancestors l.self l.left l.right)) l.left_front l.right_front

abbrev pub decreases-loop-left_at : goal.decreases-loop-left_at
decreases-loop-left_at l = ways l.self l.left_front + ways l.self l.right_front
