use Rattle.std.proofs.Common.{◌≡◌, ◌≤◌, ◌*◌, ◌^◌, ◌+◌, length, refl, sym, ap, ◌∙◌, arith}
use Rattle.std.proofs.Math.Nat.{le_trans}
use Rattle.std.proofs.lemmas.Bool.{eqb-true}
use Rattle.std.specs.Arc.{arc_value}
use Rattle.std.specs.List.{flat_map}
use Rattle.cat_ordered.specs.Maps.{value_of}
use Rattle.cat_ordered.specs.Shared.{values}
use Rattle.cat_ordered.proofs.Costs.{summed, among_few, one_at_least}
use Rattle.cat_ordered.proofs.Runs.{none_in}
use Rattle.cat_ordered.proofs.Seats.{map_at, piece_at, value_in, found_cost}
use Rattle.cat_ordered.proofs.pieces.found.Goals as goal

pub returns-then-is_empty : goal.returns-then-is_empty
returns-then-is_empty g c =
    let none : length c.args.pieces.now ≡ 0 = eqb-true _ 0 (sym c.is_empty.ensures ∙ c.if-is_empty.true) in
    let no_pairs = none_in g.P.Piece.entries g.P.Piece.size g.P.Piece.least c.args.pieces.now none in
    record {
      value = rw no_pairs refl;
      cost = one_at_least (length (flat_map g.P.Piece.entries (values c.args.pieces.now)));
      most = λ some few. absurd (omega arith);
    }

pub get-compared-requires : goal.get-compared-requires
get-compared-requires g c = rw c.deref.ensures (map_at g.K.Ord.cmp g.met.K.Ord.total g.P.Piece.entries g.P.Piece.size g.P.Piece.least c.args.pieces.now _ c.index-pieces-at.result c.requires.map c.seat-at.ensures.within c.index-pieces-at.is)

pub returns : goal.returns
returns g c =
    let x = c.index-pieces-at.result in
    let piece = piece_at g.P.Piece.entries g.P.Piece.size g.P.Piece.least c.args.pieces.now _ x c.requires.fine c.seat-at.ensures.within c.index-pieces-at.is in
    let few_parts = rw c.deref.ensures at c.get-compared.ensures.most in
    let most : 2 ^ c.get-compared.result.1 ≤ g.P.Piece.least * g.P.Piece.least = few_parts piece.full piece.fits in
    let one : 2 ^ c.get-compared.result.1 ≤ (length (g.P.Piece.entries (arc_value x)) + 1) * (length (g.P.Piece.entries (arc_value x)) + 1) = rw c.deref.ensures at c.get-compared.ensures.cost in
    record {
      value =
          c.get-compared.ensures.value ∙ ap (λ (p : g.row.P.Denot). value_of g.K.Ord.cmp (g.P.Piece.entries p) (g.Q.Seek.sought c.args.key.now)) c.deref.ensures
          ∙ sym (value_in g.K.Ord.cmp g.met.K.Ord.total g.P.Piece.entries g.P.Piece.size g.P.Piece.least c.args.pieces.now _ x (g.Q.Seek.sought c.args.key.now) c.requires.map c.seat-at.ensures.within c.index-pieces-at.is c.seat-at.ensures.before c.seat-at.ensures.after);
      cost = found_cost g.P.Piece.entries g.P.Piece.size g.P.Piece.least c.args.pieces.now _ x c.seat-at.result.1 c.get-compared.result.1 c.saturating_add.result c.requires.fine c.seat-at.ensures.within c.index-pieces-at.is (omega arith) c.seat-at.ensures.cost one most;
      most = λ some few. le_trans (summed c.seat-at.result.1 c.get-compared.result.1 c.saturating_add.result (omega arith)) (among_few (2 ^ c.seat-at.result.1) (2 ^ c.get-compared.result.1) (length c.args.pieces.now) g.P.Piece.least c.seat-at.ensures.cost few most);
    }
