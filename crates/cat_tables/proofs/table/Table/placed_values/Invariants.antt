use Rattle.std.proofs.Common.{◌≡◌, ◌≤◌, None, length, map}
use Rattle.std.proofs.Math.ListN.{replicate}
use Rattle.cat_tables.specs.Sorted.{as_pair}
use Rattle.cat_tables.proofs.Sorting.{IsFilling}
use Rattle.cat_tables.proofs.table.Table.placed_values.Given as goal

abbrev pub invariant-loop : goal.invariant-loop
invariant-loop g l = record { within : l.counter ≤ l.end; empty : map as_pair l.slots.items ≡ replicate l.counter None }

abbrev pub invariant-loop-pair : goal.invariant-loop-pair
invariant-loop-pair g l = IsFilling (length l.initial.slots.items) (map as_pair l.slots.items) l.rest l.initial.rest

abbrev pub decreases-loop-pair : goal.decreases-loop-pair
decreases-loop-pair g l = length l.rest
