use Rattle.std.proofs.Common.{arith}
use Rattle.std.proofs.lemmas.Bool.{leb-true}
use Rattle.cat_ordered.proofs.InPlace.{only_large}
use Rattle.cat_ordered.proofs.owned.is_one_large.Goals as goal

pub returns : goal.returns
returns g c = λ e. (omega arith, only_large g.P.Piece.entries g.P.Piece.size g.P.Piece.least c.args.pieces.now c.index-pieces-0.result (omega arith) c.index-pieces-0.is (leb-true _ _ (rw (c.parts.ensures, c.deref.ensures) at e)))
