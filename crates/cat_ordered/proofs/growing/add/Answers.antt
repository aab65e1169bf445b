use Rattle.std.proofs.Common.{arith}
use Rattle.std.specs.Arc.{arc_value}
use Rattle.cat_ordered.specs.Shared.{values}
use Rattle.cat_ordered.proofs.Walks.{add_some}
use Rattle.cat_ordered.proofs.growing.add.Goals as goal

pub changed-requires-clause-map : goal.changed-requires-clause-map
changed-requires-clause-map g c = rw c.deref.ensures c.requires.map

pub changed-requires-clause-fits : goal.changed-requires-clause-fits
changed-requires-clause-fits g c = rw c.deref.ensures c.requires.piece.fits

pub returns : goal.returns
returns g c =
    let both = add_some g.K.Ord.cmp g.met.K.Ord.total g.P.Piece.entries g.P.Piece.size g.P.Piece.least (values c.args.out.now.items) (values c.in_ok-made.made.pieces.items) (values c.append_all.new.out.items) (arc_value c.args.piece.now) c.args.changes.now
    c.in_ok-made.made.copied c.in_ok-appended.appended c.saturating_add.result g.P.Piece.rate (rw c.deref.ensures at c.in_ok-made.ensures.made) c.in_ok-made.ensures.few (rw c.as_slice.ensures.value at c.in_ok-appended.ensures) (omega arith) c.requires.some in
    record { made = both.0; spent = both.1 }
