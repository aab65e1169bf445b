use Rattle.std.proofs.Common.{length, ap, ◌∙◌}
use Rattle.cat_ordered.specs.Pieces.{Shape}
use Rattle.cat_ordered.proofs.run.RunPiece.len.Goals as goal

pub returns : goal.returns
returns g c = c.self.invariant.count ∙ ap (λ (r : Shape g.row.K.Denot g.row.V.Denot). length r.entries) c.self.view_is
