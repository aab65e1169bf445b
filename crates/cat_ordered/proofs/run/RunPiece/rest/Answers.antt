use Rattle.std.proofs.Common.{◌<◌, length, take, drop, sym, ap, subst, ◌∙◌}
use Rattle.cat_ordered.specs.Pieces.{Shape}
use Rattle.cat_ordered.proofs.run.RunPiece.rest.Goals as goal

pub rest-requires : goal.rest-requires
rest-requires g c = rw c.as_slice.ensures.value (subst (λ (r : Shape g.row.K.Denot g.row.V.Denot). c.args.at < length r.entries) (sym c.self.view_is) c.requires)

pub returns-clause-front : goal.returns-clause-front
returns-clause-front g c =
    (rw c.as_slice.ensures.value at c.rest.ensures.front) ∙ ap (λ (r : Shape g.row.K.Denot g.row.V.Denot). take (length c.rest.result.now) (drop c.args.at r.entries)) c.self.view_is
