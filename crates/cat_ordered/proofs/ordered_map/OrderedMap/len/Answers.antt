use Rattle.cat_ordered.proofs.ordered_map.OrderedMap.len.Goals as goal

pub returns : goal.returns
returns g c = rw c.self.view_is at c.self.invariant.count
