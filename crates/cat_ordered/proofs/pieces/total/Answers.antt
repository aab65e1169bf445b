use Rattle.cat_ordered.proofs.Lists.{not_below}
use Rattle.cat_ordered.proofs.Seats.{total_more, total_over, total_all}
use Rattle.cat_ordered.proofs.pieces.total.Goals as goal

pub loop-piece-preserved : goal.loop-piece-preserved
loop-piece-preserved g c =
    total_more g.P.Piece.entries c.args.pieces.now c.loop-piece.piece-index c.piece-item.result c.loop-piece.sum c.len_of.result c.in-Some.more c.loop-piece-test.true c.piece-item.is c.len_of.ensures c.in-Some.ensures.1 c.loop-piece.invariant

pub returns-in_default : goal.returns-in_default
returns-in_default g c =
    total_over g.P.Piece.entries c.args.pieces.now c.loop-piece.piece-index c.piece-item.result c.loop-piece.sum c.len_of.result c.loop-piece-test.true c.piece-item.is c.len_of.ensures (not_below _ _ c.in_default.ensures) c.loop-piece.invariant

pub returns : goal.returns
returns g c = total_all g.P.Piece.entries c.args.pieces.now c.loop-piece.piece-index c.loop-piece.sum c.loop-piece-test.false c.loop-piece.invariant
