use Rattle.cat_ordered.proofs.block.BlockPiece.rank.Goals as goal

pub place-at-requires : goal.place-at-requires
place-at-requires g c = rw c.as_slice.ensures.value c.requires

pub returns : goal.returns
returns g c = rw c.as_slice.ensures.value at c.place-at.ensures.place
