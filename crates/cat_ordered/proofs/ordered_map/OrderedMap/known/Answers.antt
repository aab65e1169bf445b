use Rattle.cat_ordered.proofs.ordered_map.OrderedMap.known.Goals as goal

pub returns : goal.returns
returns g c = rw (← c.self.view_is) c.self.invariant.map
