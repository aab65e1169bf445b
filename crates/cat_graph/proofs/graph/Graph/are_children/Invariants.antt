use Rattle.std.proofs.Common.{◌≡◌, drop}
use Rattle.cat_model.specs.Transplants.{are_children}
use Rattle.cat_graph.proofs.graph.Graph.are_children.Given as goal

abbrev pub invariant-loop-hash : goal.invariant-loop-hash
invariant-loop-hash l = are_children l.self l.parent (drop l.hash-index l.hashes) ≡ are_children l.self l.first l.hashes
