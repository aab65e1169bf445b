use Rattle.std.proofs.Common.{◌≡◌, ◌++◌}
use Rattle.std.specs.Vec.Iter.{into_iter_items}
use Rattle.cat_tables.specs.Arrivals.{removes}
use Rattle.cat_tables.proofs.removing.removals.Given as goal

abbrev pub invariant-loop-hash : goal.invariant-loop-hash
invariant-loop-hash g l = l.out.items ++ removes (into_iter_items l.hash-iterator) ≡ removes l.fn.hashes.items
