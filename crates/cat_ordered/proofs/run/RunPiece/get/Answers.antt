use Rattle.std.proofs.Common.{◌+◌, ◌*◌, ◌^◌, ◌<◌, ◌≤◌, length, ap, subst, ◌∙◌}
use Rattle.cat_ordered.specs.Maps.{value_of}
use Rattle.cat_ordered.specs.Pieces.{Shape}
use Rattle.cat_ordered.proofs.Runs.{map_inside}
use Rattle.cat_ordered.proofs.run.RunPiece.get.Goals as goal

pub found-requires-clause-fine : goal.found-requires-clause-fine
found-requires-clause-fine g c = rw c.as_slice.ensures.value c.self.invariant.fine

pub found-requires-clause-map : goal.found-requires-clause-map
found-requires-clause-map g c = rw c.as_slice.ensures.value (map_inside g.P.Piece.entries g.P.Piece.size g.P.Piece.least g.K.Ord.cmp c.self.inside.pieces.items _ c.self.view_is c.requires)

pub returns-clause-value : goal.returns-clause-value
returns-clause-value g c = (rw c.as_slice.ensures.value at c.found.ensures.value) ∙ ap (λ (r : Shape g.row.K.Denot g.row.V.Denot). value_of g.K.Ord.cmp r.entries (g.Q.Seek.sought c.args.key.now)) c.self.view_is

pub returns-clause-cost : goal.returns-clause-cost
returns-clause-cost g c =
    subst (λ (r : Shape g.row.K.Denot g.row.V.Denot). 2 ^ c.found.result.1 ≤ (length r.entries + 1) * (length r.entries + 1)) c.self.view_is (rw c.as_slice.ensures.value at c.found.ensures.cost)

pub returns-clause-most : goal.returns-clause-most
returns-clause-most g c =
    subst (λ (r : Shape g.row.K.Denot g.row.V.Denot). 0 < r.size → r.size ≤ 64 → 2 ^ c.found.result.1 ≤ 16 * g.P.Piece.least * (16 * g.P.Piece.least)) c.self.view_is (rw c.as_slice.ensures.value at c.found.ensures.most)
