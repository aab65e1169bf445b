use Rattle.std.proofs.Common.{◌≡◌, ◌≤◌, ◌-◌, ◌++◌, length}
use Rattle.cat_model.specs.Chain.{chain}
use Rattle.cat_graph.specs.Linked.{values}
use Rattle.cat_graph.proofs.graph.Graph.chain.Given as goal

abbrev pub invariant-loop-at : goal.invariant-loop-at
invariant-loop-at l = record {
  walked : values l.found.items ++ chain l.self l.at ≡ chain l.self l.from;
  few : length l.found.items ≤ l.limit;
}

abbrev pub decreases-loop-at : goal.decreases-loop-at
decreases-loop-at l = l.limit - length l.found.items
