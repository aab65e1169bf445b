use Rattle.std.proofs.Common.{◌≡◌, ◌+◌, ◌<◌, ◌^◌, length, refl, sym, ◌∙◌, arith}
use Rattle.std.proofs.lemmas.Bool.{eqb-true}
use Rattle.std.specs.List.{flat_map}
use Rattle.cat_ordered.specs.Places.{place_of}
use Rattle.cat_ordered.specs.Shared.{values}
use Rattle.cat_ordered.proofs.Runs.{none_in}
use Rattle.cat_ordered.proofs.Seats.{map_at, front_fits, ranked, ranked_within}
use Rattle.cat_ordered.proofs.pieces.rank.Goals as goal

pub returns-then-is_empty : goal.returns-then-is_empty
returns-then-is_empty g c =
    let none : length c.args.pieces.now ≡ 0 = eqb-true _ 0 (sym c.is_empty.ensures ∙ c.if-is_empty.true) in
    rw (none_in g.P.Piece.entries g.P.Piece.size g.P.Piece.least c.args.pieces.now none) refl

pub unreachable-requires : goal.unreachable-requires
unreachable-requires g c = omega (arith, c.in_default.ensures, c.requires.count, c.ranges.len, front_fits g.P.Piece.entries c.args.pieces.now c.front_of.result.now c.seat-at.result.0 c.front_of.ensures)

pub rank-requires : goal.rank-requires
rank-requires g c = rw c.deref.ensures (map_at g.K.Ord.cmp g.met.K.Ord.total g.P.Piece.entries g.P.Piece.size g.P.Piece.least c.args.pieces.now _ c.index-pieces-at.result c.requires.map c.seat-at.ensures.within c.index-pieces-at.is)

pub overflow_add-result : goal.overflow_add-result
overflow_add-result g c =
    let short : length (flat_map g.P.Piece.entries (values c.args.pieces.now)) < 2 ^ 64 = omega (arith, c.requires.count, c.ranges.len) in
    let sum : c.in-Some.before + c.rank.result ≡ place_of g.K.Ord.cmp (flat_map g.P.Piece.entries (values c.args.pieces.now)) c.args.key.now =
    ranked g.K.Ord.cmp g.met.K.Ord.total g.P.Piece.entries g.P.Piece.size g.P.Piece.least c.args.pieces.now c.front_of.result.now c.seat-at.result.0 c.index-pieces-at.result c.args.key.now c.in-Some.before c.rank.result
    c.requires.map c.seat-at.ensures.within c.index-pieces-at.is c.seat-at.ensures.before c.seat-at.ensures.after c.front_of.ensures c.in-Some.ensures (rw c.deref.ensures at c.rank.ensures) in
    omega (arith, ranked_within g.K.Ord.cmp g.met.K.Ord.total g.P.Piece.entries g.P.Piece.size g.P.Piece.least c.args.pieces.now c.args.key.now (c.in-Some.before + c.rank.result) sum short)

pub returns : goal.returns
returns g c =
    ranked g.K.Ord.cmp g.met.K.Ord.total g.P.Piece.entries g.P.Piece.size g.P.Piece.least c.args.pieces.now c.front_of.result.now c.seat-at.result.0 c.index-pieces-at.result c.args.key.now c.in-Some.before c.rank.result
    c.requires.map c.seat-at.ensures.within c.index-pieces-at.is c.seat-at.ensures.before c.seat-at.ensures.after c.front_of.ensures c.in-Some.ensures (rw c.deref.ensures at c.rank.ensures)
