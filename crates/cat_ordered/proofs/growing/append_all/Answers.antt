use Rattle.std.proofs.Common.{◌<◌, length, sym, ◌∙◌, arith}
use Rattle.std.proofs.lemmas.Bool.{eqb-true, eqb-false}
use Rattle.cat_ordered.proofs.Seats.{piece_at}
use Rattle.cat_ordered.proofs.Walks.{first_of_more, none_of_more}
use Rattle.cat_ordered.proofs.growing.append_all.Goals as goal

pub returns-then-is_empty : goal.returns-then-is_empty
returns-then-is_empty g c = none_of_more g.P.Piece.entries g.P.Piece.size g.P.Piece.least c.args.out.now.items c.args.pieces.now (eqb-true _ 0 (sym c.is_empty.ensures ∙ c.if-is_empty.true)) c.requires.fine

pub append-requires-clause-piece : goal.append-requires-clause-piece
append-requires-clause-piece g c =
    let some : 0 < length c.args.pieces.now = omega (arith, eqb-false _ 0 (sym c.is_empty.ensures ∙ c.if-is_empty.false)) in
    piece_at g.P.Piece.entries g.P.Piece.size g.P.Piece.least c.args.pieces.now 0 c.index-pieces-0.result c.requires.pieces some c.index-pieces-0.is

pub returns : goal.returns
returns g c =
    let some : 0 < length c.args.pieces.now = omega (arith, eqb-false _ 0 (sym c.is_empty.ensures ∙ c.if-is_empty.false)) in
    first_of_more g.P.Piece.entries g.P.Piece.size g.P.Piece.least c.args.out.now.items c.append.new.out.items c.share_all.new.out.items c.args.pieces.now c.rest_of.result.now c.index-pieces-0.result c.in_ok-copied.copied
    c.requires.pieces some c.index-pieces-0.is c.rest_of.ensures c.in_ok-copied.ensures c.in_ok-share_all.ensures
