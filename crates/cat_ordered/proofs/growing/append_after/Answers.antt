use Rattle.std.specs.Arc.{arc_value}
use Rattle.cat_ordered.specs.Shared.{values}
use Rattle.cat_ordered.proofs.Appends.{last_is}
use Rattle.cat_ordered.proofs.Walks.{joined_small, large_owner}
use Rattle.cat_ordered.proofs.growing.append_after.Goals as goal

pub returns-then-are_large : goal.returns-then-are_large
returns-then-are_large g c =
    large_owner g.P.Piece.entries g.P.Piece.size g.P.Piece.least c.args.out.now.items c.push.new.self.items c.push_owner.new.out.items c.args.last (arc_value c.args.next.now)
    c.in_ok-push.ensures.items c.in_ok-push_owner.ensures c.requires.fine c.requires.piece (c.are_large.ensures.large c.if-are_large.true)

pub joined-requires-clause-left : goal.joined-requires-clause-left
joined-requires-clause-left g c = rw c.deref.ensures (last_is g.P.Piece.entries g.P.Piece.size g.P.Piece.least (values c.args.out.now.items) (arc_value c.args.last) c.requires.fine).fits

pub returns : goal.returns
returns g c =
    joined_small g.P.Piece.entries g.P.Piece.size g.P.Piece.least c.args.out.now.items c.in_ok-joined.joined.pieces.items c.share_all.new.out.items (arc_value c.args.last) (arc_value c.args.next.now) c.in_ok-joined.joined.copied
    c.requires.fine (c.are_large.ensures.small c.if-are_large.false) (rw (c.deref.ensures, c.deref-2.ensures) at c.in_ok-joined.ensures.made) c.in_ok-joined.ensures.few (rw c.as_slice.ensures.value at c.in_ok-share_all.ensures)
