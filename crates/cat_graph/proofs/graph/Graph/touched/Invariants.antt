use Rattle.std.proofs.Common.{◌≡◌, ◌++◌, length}
use Rattle.std.specs.Option.{option_map}
use Rattle.cat_model.specs.Chain.{chain}
use Rattle.cat_graph.specs.Touched.{between, touched_within}
use Rattle.cat_graph.proofs.graph.Graph.touched.Given as goal

abbrev pub invariant-loop-at : goal.invariant-loop-at
invariant-loop-at l = option_map (λ more. l.keys ++ more) (touched_within l.left (between l.self l.at l.to)) ≡ touched_within l.most (between l.self l.from l.to)

abbrev pub decreases-loop-at : goal.decreases-loop-at
decreases-loop-at l = length (chain l.self l.at)
