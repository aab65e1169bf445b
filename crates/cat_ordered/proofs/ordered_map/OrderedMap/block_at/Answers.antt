use Rattle.cat_ordered.proofs.ordered_map.OrderedMap.block_at.Goals as goal

pub rest-requires : goal.rest-requires
rest-requires g c = rw (c.as_slice.ensures.value, c.self.view_is) c.requires

pub returns-clause-front : goal.returns-clause-front
returns-clause-front g c = rw (c.as_slice.ensures.value, c.self.view_is) at c.rest.ensures.front
