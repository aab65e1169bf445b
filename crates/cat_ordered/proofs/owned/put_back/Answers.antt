use Rattle.std.proofs.Common.{◌≡◌, length, sym, ◌∙◌, arith}
use Rattle.std.proofs.lemmas.Bool.{eqb-true}
use Rattle.cat_ordered.specs.Shared.{values}
use Rattle.cat_ordered.proofs.InPlace.{put_alone, put_large, only_count, count_put}
use Rattle.cat_ordered.proofs.Seats.{length-values}
use Rattle.cat_ordered.proofs.owned.put_back.Goals as goal

pub returns-then-is_empty-clause-inserts : goal.returns-then-is_empty-clause-inserts
returns-then-is_empty-clause-inserts g c =
    let none : length c.args.others.items ≡ 0 = omega (arith, eqb-true _ 0 (sym c.is_empty.ensures ∙ c.if-is_empty.true)) in
    put_alone g.P.Piece.entries g.P.Piece.size g.P.Piece.least (values c.args.others.items) (values c.args.made.pieces.items) c.args.at (omega (arith, length-values c.args.others.items)) (omega (arith, length-values c.args.others.items)) c.requires.fine

pub is_one_large-requires : goal.is_one_large-requires
is_one_large-requires g c = rw c.as_slice.ensures.value c.requires.fine

pub insert_one-requires-clause-one : goal.insert_one-requires-clause-one
insert_one-requires-clause-one g c = rw c.as_slice.ensures.value at (c.is_one_large.ensures c.if-is_one_large.true).0

pub returns-then-is_one_large : goal.returns-then-is_one_large
returns-then-is_one_large g c =
    let one = rw c.as_slice.ensures.value at c.is_one_large.ensures c.if-is_one_large.true in
    let others = values c.args.others.items in
    let more = values c.args.made.pieces.items in
    let m = only_count g.P.Piece.entries g.P.Piece.size g.P.Piece.least c.args.made.pieces.items c.index.result.now c.len_of.result one.0 c.index.ensures c.len_of.ensures in
    record {
      inserts = put_large g.P.Piece.entries g.P.Piece.size g.P.Piece.least others more (values c.in_ok-pieces.pieces.items) c.args.at c.requires.fine one.1 c.requires.pieces c.requires.large c.in_ok-pieces.ensures;
      few = omega arith;
      count = count_put g.P.Piece.entries g.P.Piece.size g.P.Piece.least others more (values c.in_ok-pieces.pieces.items) c.args.at c.args.len c.len_of.result c.in-Some.len c.in_ok-pieces.ensures c.requires.count m c.in-Some.ensures.1;
    }
