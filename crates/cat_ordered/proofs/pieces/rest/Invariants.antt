use Rattle.std.proofs.Common.{◌≡◌, ◌<◌, length, drop}
use Rattle.std.specs.List.{flat_map}
use Rattle.cat_ordered.specs.Shared.{values}
use Rattle.cat_ordered.proofs.pieces.rest.Given as goal

abbrev pub invariant-loop-piece : goal.invariant-loop-piece
invariant-loop-piece g l = record {
  within : l.left < length (flat_map g.P.Piece.entries (drop l.piece-index (values l.pieces)));
  whole : drop l.at (flat_map g.P.Piece.entries (values l.pieces)) ≡ drop l.left (flat_map g.P.Piece.entries (drop l.piece-index (values l.pieces)));
}
