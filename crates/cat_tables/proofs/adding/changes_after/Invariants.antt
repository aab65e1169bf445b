use Rattle.std.proofs.Common.{◌≡◌, ◌++◌}
use Rattle.std.specs.Vec.Iter.{into_iter_items}
use Rattle.cat_tables.specs.Arrivals.{puts}
use Rattle.cat_tables.proofs.adding.changes_after.Given as goal

abbrev pub invariant-loop-hash : goal.invariant-loop-hash
invariant-loop-hash g l = l.out.items ++ puts l.next (into_iter_items l.hash-iterator) ≡ puts l.fn.place l.fn.items.items
