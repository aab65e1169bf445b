use Rattle.std.proofs.Common.{◌+◌, length}
use Rattle.cat_ordered.proofs.Costs.{within_square}
use Rattle.cat_ordered.proofs.ordered_map.OrderedMap.get_counted.Goals as goal

pub found-requires-clause-fine : goal.found-requires-clause-fine
found-requires-clause-fine g c = rw c.as_slice.ensures.value c.self.invariant.fine

pub found-requires-clause-map : goal.found-requires-clause-map
found-requires-clause-map g c = rw c.as_slice.ensures.value c.self.invariant.map

pub returns-clause-value : goal.returns-clause-value
returns-clause-value g c = rw (c.as_slice.ensures.value, c.self.view_is) at c.found.ensures.value

pub returns-clause-cost : goal.returns-clause-cost
returns-clause-cost g c = within_square c.found.result.1 (length c.args.self.now + 1) (rw (c.as_slice.ensures.value, c.self.view_is) at c.found.ensures.cost)
