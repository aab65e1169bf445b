use Rattle.std.proofs.Common.{◌≡◌, ◌<◌, length, true, false, sym, ap, ◌∙◌, arith}
use Rattle.std.proofs.lemmas.Bool.{eqb-true, eqb-false}
use Rattle.std.specs.List.{flat_map}
use Rattle.cat_ordered.specs.Maps.{begins_by}
use Rattle.cat_ordered.specs.Shared.{values}
use Rattle.cat_ordered.proofs.Seats.{piece_at}
use Rattle.cat_ordered.proofs.Walks.{share_empty, begins_first, share_here, share_next, share_whole}
use Rattle.cat_ordered.proofs.growing.share.Goals as goal

pub returns-then-is_empty-clause-share : goal.returns-then-is_empty-clause-share
returns-then-is_empty-clause-share g c = share_empty g.K.Ord.cmp g.met.K.Ord.total g.P.Piece.entries g.P.Piece.size g.P.Piece.least c.args.changes.now c.args.others.now (eqb-true _ 0 (sym c.is_empty.ensures ∙ c.if-is_empty.true))

pub begins_by-requires : goal.begins_by-requires
begins_by-requires g c =
    let some : 0 < length c.args.others.now = omega (arith, eqb-false _ 0 (sym c.is_empty.ensures ∙ c.if-is_empty.false)) in
    (piece_at g.P.Piece.entries g.P.Piece.size g.P.Piece.least c.args.others.now 0 c.index-others-0.result c.requires some c.index-others-0.is).some

pub returns-then-begins_by-clause-share : goal.returns-then-begins_by-clause-share
returns-then-begins_by-clause-share g c =
    let some : 0 < length c.args.others.now = omega (arith, eqb-false _ 0 (sym c.is_empty.ensures ∙ c.if-is_empty.false)) in
    let rest = flat_map g.P.Piece.entries (values c.args.others.now) in
    let here : begins_by g.K.Ord.cmp rest c.index-changes-i.result.0 ≡ true =
    ap (begins_by g.K.Ord.cmp rest) (sym c.key.ensures)
    ∙ begins_first g.K.Ord.cmp g.met.K.Ord.total g.P.Piece.entries g.P.Piece.size g.P.Piece.least c.args.others.now c.index-others-0.result c.key.result.now c.requires some c.index-others-0.is
    ∙ sym c.begins_by.ensures ∙ c.if-begins_by.true in
    share_here g.K.Ord.cmp g.met.K.Ord.total c.args.changes.now c.loop-i.i c.index-changes-i.result rest c.loop-i-test.true c.index-changes-i.is here c.loop-i.invariant

pub loop-i-preserved : goal.loop-i-preserved
loop-i-preserved g c =
    let some : 0 < length c.args.others.now = omega (arith, eqb-false _ 0 (sym c.is_empty.ensures ∙ c.if-is_empty.false)) in
    let rest = flat_map g.P.Piece.entries (values c.args.others.now) in
    let later : begins_by g.K.Ord.cmp rest c.index-changes-i.result.0 ≡ false =
    ap (begins_by g.K.Ord.cmp rest) (sym c.key.ensures)
    ∙ begins_first g.K.Ord.cmp g.met.K.Ord.total g.P.Piece.entries g.P.Piece.size g.P.Piece.least c.args.others.now c.index-others-0.result c.key.result.now c.requires some c.index-others-0.is
    ∙ sym c.begins_by.ensures ∙ c.if-begins_by.false in
    share_next g.K.Ord.cmp g.met.K.Ord.total c.args.changes.now c.loop-i.i c.index-changes-i.result rest c.loop-i-test.true c.index-changes-i.is later c.loop-i.invariant

pub returns-clause-share : goal.returns-clause-share
returns-clause-share g c = share_whole g.K.Ord.cmp g.met.K.Ord.total c.args.changes.now c.loop-i.i (flat_map g.P.Piece.entries (values c.args.others.now)) c.loop-i-test.false c.loop-i.invariant
