use Rattle.std.proofs.Common.{ap, ◌∙◌}
use Rattle.cat_ordered.specs.Pieces.{Shape}
use Rattle.cat_ordered.specs.Places.{place_of}
use Rattle.cat_ordered.proofs.Runs.{map_inside}
use Rattle.cat_ordered.proofs.run.RunPiece.rank.Goals as goal

pub rank-requires-clause-fine : goal.rank-requires-clause-fine
rank-requires-clause-fine g c = rw c.as_slice.ensures.value c.self.invariant.fine

pub rank-requires-clause-map : goal.rank-requires-clause-map
rank-requires-clause-map g c = rw c.as_slice.ensures.value (map_inside g.P.Piece.entries g.P.Piece.size g.P.Piece.least g.K.Ord.cmp c.self.inside.pieces.items _ c.self.view_is c.requires)

pub rank-requires-clause-count : goal.rank-requires-clause-count
rank-requires-clause-count g c = rw c.as_slice.ensures.value c.self.invariant.count

pub returns : goal.returns
returns g c = (rw c.as_slice.ensures.value at c.rank.ensures) ∙ ap (λ (r : Shape g.row.K.Denot g.row.V.Denot). place_of g.K.Ord.cmp r.entries c.args.key.now) c.self.view_is
