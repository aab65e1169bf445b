use Rattle.cat_ordered.proofs.block.BlockPiece.get.Goals as goal

pub value_at-requires : goal.value_at-requires
value_at-requires g c = rw c.as_slice.ensures.value c.requires

pub returns-clause-value : goal.returns-clause-value
returns-clause-value g c = rw c.as_slice.ensures.value at c.value_at.ensures.value

pub returns-clause-cost : goal.returns-clause-cost
returns-clause-cost g c = rw c.as_slice.ensures.value at c.value_at.ensures.cost

pub returns-clause-most : goal.returns-clause-most
returns-clause-most g c = rw c.as_slice.ensures.value at c.value_at.ensures.most
