use Rattle.std.proofs.Common.{◌≡◌, ◌++◌, take}
use Rattle.cat_graph.specs.Touched.{keys_named}
use Rattle.cat_graph.proofs.touched.add_keys.Given as goal

abbrev pub invariant-loop-key : goal.invariant-loop-key
invariant-loop-key l = l.out ≡ l.fn.out ++ keys_named (take l.key-index l.changes)
