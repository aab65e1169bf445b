use Rattle.std.proofs.Common.{◌<◌, length, refl, arith}
use Rattle.std.specs.Arc.{arc_value}
use Rattle.cat_ordered.proofs.Seats.{behind, still_within, nothing_behind, inside}
use Rattle.cat_ordered.proofs.pieces.rest.Goals as goal

pub loop-piece-init : goal.loop-piece-init
loop-piece-init g c = record { within = c.requires; whole = refl }

pub loop-piece-preserved : goal.loop-piece-preserved
loop-piece-preserved g c =
    record {
      within = still_within g.P.Piece.entries c.args.pieces.now c.loop-piece.piece-index c.piece-item.result c.loop-piece.left c.len_of-len.result c.loop-piece-test.true c.piece-item.is c.len_of-len.ensures c.if-left-len.false c.loop-piece.invariant.within;
      whole = behind g.P.Piece.entries c.args.pieces.now c.loop-piece.piece-index c.piece-item.result c.args.at c.loop-piece.left c.len_of-len.result c.loop-piece-test.true c.piece-item.is c.len_of-len.ensures c.if-left-len.false c.loop-piece.invariant.whole;
    }

pub returns-then-left-len-clause-front : goal.returns-then-left-len-clause-front
returns-then-left-len-clause-front g c =
    let lt : c.loop-piece.left < length (g.P.Piece.entries (arc_value c.piece-item.result)) = omega (arith, c.len_of-len.ensures) in
    inside g.P.Piece.entries c.args.pieces.now c.loop-piece.piece-index c.piece-item.result c.args.at c.loop-piece.left c.rest.result.now c.loop-piece-test.true c.piece-item.is
    lt (rw c.deref.ensures at c.rest.ensures.front) c.loop-piece.invariant.whole

pub unreachable-requires : goal.unreachable-requires
unreachable-requires g c = nothing_behind g.P.Piece.entries c.args.pieces.now c.loop-piece.piece-index c.loop-piece.left c.loop-piece-test.false c.loop-piece.invariant.within
