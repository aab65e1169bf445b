use Rattle.std.proofs.Common.{◌<◌, ◌≤◌, ◌*◌, length, refl, arith}
use Rattle.cat_ordered.specs.Shared.{values}
use Rattle.cat_ordered.proofs.InPlace.{others_pieces, others_large, others_count, place_left, one_made}
use Rattle.cat_ordered.proofs.Seats.{piece_at, map_at, within, length-values, value_at}
use Rattle.cat_ordered.proofs.owned.change_one.Goals as goal

pub seat-at-requires-clause-some : goal.seat-at-requires-clause-some
seat-at-requires-clause-some g c = rw c.as_slice.ensures.value c.requires.pieces

pub seat-at-requires-clause-fine : goal.seat-at-requires-clause-fine
seat-at-requires-clause-fine g c = rw c.as_slice.ensures.value c.requires.fine

pub overflow_sub-left : goal.overflow_sub-left
overflow_sub-left g c =
    let lt : c.seat-at.result.0 < length c.args.pieces.items = rw c.as_slice.ensures.value at c.seat-at.ensures.within in
    omega (arith, c.len_of.ensures, c.requires.count, within g.P.Piece.entries (values c.args.pieces.items) c.seat-at.result.0 _ (omega (arith, length-values c.args.pieces.items)) (value_at c.args.pieces.items c.seat-at.result.0 c.remove-piece.result lt c.remove-piece.ensures.value))

pub changed_piece-requires-clause-map : goal.changed_piece-requires-clause-map
changed_piece-requires-clause-map g c =
    map_at g.K.Ord.cmp g.met.K.Ord.total g.P.Piece.entries g.P.Piece.size g.P.Piece.least c.args.pieces.items _ c.remove-piece.result c.requires.map (rw c.as_slice.ensures.value at c.seat-at.ensures.within) c.remove-piece.ensures.value

pub changed_piece-requires-clause-fits : goal.changed_piece-requires-clause-fits
changed_piece-requires-clause-fits g c =
    (piece_at g.P.Piece.entries g.P.Piece.size g.P.Piece.least c.args.pieces.items _ c.remove-piece.result c.requires.fine (rw c.as_slice.ensures.value at c.seat-at.ensures.within) c.remove-piece.ensures.value).fits

pub put_back-requires-clause-within : goal.put_back-requires-clause-within
put_back-requires-clause-within g c = place_left c.args.pieces.items c.remove-piece.new.self.items c.seat-at.result.0 c.remove-piece.ensures.by_index.2 (rw c.as_slice.ensures.value at c.seat-at.ensures.within)

pub put_back-requires-clause-pieces : goal.put_back-requires-clause-pieces
put_back-requires-clause-pieces g c = others_pieces g.P.Piece.entries g.P.Piece.size g.P.Piece.least c.args.pieces.items c.remove-piece.new.self.items c.seat-at.result.0 c.remove-piece.ensures.by_index.2 c.requires.fine

pub put_back-requires-clause-large : goal.put_back-requires-clause-large
put_back-requires-clause-large g c =
    others_large g.P.Piece.entries g.P.Piece.size g.P.Piece.least c.args.pieces.items c.remove-piece.new.self.items c.seat-at.result.0 c.remove-piece.ensures.by_index.2 (rw c.as_slice.ensures.value at c.seat-at.ensures.within) c.requires.fine

pub put_back-requires-clause-count : goal.put_back-requires-clause-count
put_back-requires-clause-count g c =
    others_count g.P.Piece.entries g.P.Piece.size g.P.Piece.least c.args.pieces.items c.remove-piece.new.self.items c.seat-at.result.0 c.remove-piece.result c.args.len c.len_of.result _ (rw c.as_slice.ensures.value at c.seat-at.ensures.within) c.remove-piece.ensures.value c.remove-piece.ensures.by_index.2 c.requires.count c.len_of.ensures refl

pub put_back-requires-clause-fine : goal.put_back-requires-clause-fine
put_back-requires-clause-fine g c = c.in_ok-made.ensures.made.fine

pub returns-clause-made : goal.returns-clause-made
returns-clause-made g c =
    one_made g.K.Ord.cmp g.met.K.Ord.total g.P.Piece.entries g.P.Piece.size g.P.Piece.least c.args.pieces.items c.remove-piece.new.self.items c.seat-at.result.0 c.remove-piece.result c.key.result.now c.index-changes-0.result c.args.changes.now
    (values c.in_ok-made.made.pieces.items) (values c.in_ok-grown.grown.made.pieces.items) c.requires.map (rw c.as_slice.ensures.value at c.seat-at.ensures.within) c.remove-piece.ensures.value c.remove-piece.ensures.by_index.2 c.requires.one c.index-changes-0.is c.key.ensures
    (rw c.as_slice.ensures.value at c.seat-at.ensures.before) (rw c.as_slice.ensures.value at c.seat-at.ensures.after) c.in_ok-made.ensures.made c.in_ok-grown.ensures.inserts

pub returns-clause-few : goal.returns-clause-few
returns-clause-few g c =
    let few : c.in_ok-made.made.copied ≤ g.P.Piece.rate * 1 = rw c.requires.one at c.in_ok-made.ensures.few in
    omega (arith, few, c.in_ok-grown.ensures.few)
