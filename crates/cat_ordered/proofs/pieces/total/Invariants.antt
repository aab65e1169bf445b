use Rattle.std.proofs.Common.{◌≡◌, length, take}
use Rattle.std.specs.List.{flat_map}
use Rattle.cat_ordered.specs.Shared.{values}
use Rattle.cat_ordered.proofs.pieces.total.Given as goal

abbrev pub invariant-loop-piece : goal.invariant-loop-piece
invariant-loop-piece g l = l.sum ≡ length (flat_map g.P.Piece.entries (take l.piece-index (values l.pieces)))
