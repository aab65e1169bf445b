use Rattle.std.proofs.Common.{◌*◌, length}
use Rattle.std.specs.List.{flat_map}
use Rattle.std.specs.Vec.Iter.{into_iter_items}
use Rattle.cat_ordered.specs.Pieces.{AreFine}
use Rattle.cat_ordered.specs.Shared.{values}
use Rattle.cat_ordered.proofs.Cutting.{Cut}
use Rattle.cat_ordered.proofs.run.cut_runs.Given as goal

abbrev pub invariant-loop-alloc : goal.invariant-loop-alloc
invariant-loop-alloc g l = record {
  fine : AreFine g.P.Piece.entries g.P.Piece.size g.P.Piece.least (values (into_iter_items l.rest));
  cut : Cut (λ r. r.entries) (λ r. r.size) (16 * g.P.Piece.least) (flat_map g.P.Piece.entries (values l.fn.pieces.items)) (length l.fn.pieces.items) (values l.out.items) (flat_map g.P.Piece.entries (values (into_iter_items l.rest))) (length (into_iter_items l.rest));
}

abbrev pub decreases-loop-alloc : goal.decreases-loop-alloc
decreases-loop-alloc g l = length (into_iter_items l.rest)
