use Rattle.std.proofs.Common.{◌≡◌, ◌+◌, ◌≤◌, drop}
use Rattle.cat_model.specs.Commits.{puts}
use Rattle.cat_decisions.proofs.ops.puts.Given as goal

abbrev pub invariant-loop-op : goal.invariant-loop-op
invariant-loop-op l = record { left : l.count + puts (drop l.op-index l.ops) ≡ puts l.ops; bound : l.count ≤ l.op-index }
