use Rattle.std.proofs.Common.{◌≡◌, length}
use Rattle.cat_model.specs.Chain.{chain, on_chain}
use Rattle.cat_graph.proofs.graph.Graph.on_chain.Given as goal

abbrev pub invariant-loop-at : goal.invariant-loop-at
invariant-loop-at l = on_chain l.self l.at l.hash ≡ on_chain l.self l.head l.hash

abbrev pub decreases-loop-at : goal.decreases-loop-at
decreases-loop-at l = length (chain l.self l.at)
