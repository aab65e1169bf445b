use Rattle.std.proofs.Common.{ap, ◌∙◌}
use Rattle.cat_ordered.specs.Maps.{after_changes}
use Rattle.cat_ordered.specs.Pieces.{Shape}
use Rattle.cat_ordered.proofs.Cutting.{cuts_make}
use Rattle.cat_ordered.proofs.Runs.{map_inside}
use Rattle.cat_ordered.proofs.run.RunPiece.into_changed.Goals as goal

pub into_changed-requires-clause-fine : goal.into_changed-requires-clause-fine
into_changed-requires-clause-fine g c = c.self.invariant.fine

pub into_changed-requires-clause-map : goal.into_changed-requires-clause-map
into_changed-requires-clause-map g c = map_inside g.P.Piece.entries g.P.Piece.size g.P.Piece.least g.K.Ord.cmp c.self.inside.pieces.items _ c.self.view_is c.requires.map

pub into_changed-requires-clause-count : goal.into_changed-requires-clause-count
into_changed-requires-clause-count g c = c.self.invariant.count

pub returns-clause-made : goal.returns-clause-made
returns-clause-made g c =
    cuts_make _ _ _ _ _ _ _ c.in_ok-counted_runs.ensures (c.in_ok-made.ensures.made.whole ∙ ap (λ (r : Shape g.row.K.Denot g.row.V.Denot). after_changes g.K.Ord.cmp c.args.changes.now r.entries) c.self.view_is)

pub returns-clause-few : goal.returns-clause-few
returns-clause-few g c = c.in_ok-made.ensures.few
