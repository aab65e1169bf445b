use Rattle.std.proofs.Common.{◌≡◌, ◌+◌, ◌≤◌, drop, length}
use Rattle.cat_model.specs.Merges.{entries_set}
use Rattle.cat_decisions.proofs.counting.set_count.Given as goal

abbrev pub invariant-loop-entry : goal.invariant-loop-entry
invariant-loop-entry l = record { left : l.count + length (entries_set (drop l.entry-index l.ops)) ≡ length (entries_set l.ops); bound : l.count ≤ l.entry-index }
