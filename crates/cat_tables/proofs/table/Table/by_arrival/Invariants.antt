use Rattle.std.proofs.Common.{◌≡◌, ◌++◌, drop, map, reverse}
use Rattle.std.specs.List.{flat_map}
use Rattle.cat_tables.specs.Sorted.{as_pair, if_there}
use Rattle.cat_tables.proofs.table.Table.by_arrival.Given as goal

abbrev pub invariant-loop-slot : goal.invariant-loop-slot
invariant-loop-slot g l = map (λ x. (x.0.now, x.1.now)) l.pairs.items ++ flat_map if_there (map as_pair (drop l.slot-index l.slot-items)) ≡ reverse l.self
