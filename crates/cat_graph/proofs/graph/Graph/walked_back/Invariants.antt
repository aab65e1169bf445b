use Rattle.std.proofs.Common.{◌≡◌}
use Rattle.cat_model.specs.Chain.{back}
use Rattle.cat_graph.proofs.graph.Graph.walked_back.Given as goal

abbrev pub invariant-loop-left : goal.invariant-loop-left
invariant-loop-left l = back l.self l.at l.left ≡ back l.self l.hash l.n

abbrev pub decreases-loop-left : goal.decreases-loop-left
decreases-loop-left l = l.left
