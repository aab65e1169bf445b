use Rattle.std.proofs.Common.{length, ap}
use Rattle.cat_ordered.proofs.Runs.{owners_are, runs_join}
use Rattle.cat_ordered.proofs.run.RunPiece.joined.Goals as goal

pub append_all-requires-clause-fine : goal.append_all-requires-clause-fine
append_all-requires-clause-fine g c =
    rw (owners_are c.in_ok-out.out.items c.self.inside.pieces.items c.share_all.new.out.items (ap length c.in_ok-out.ensures.items) (rw c.as_slice.ensures.value at c.in_ok-share_all.ensures)) c.self.invariant.fine

pub append_all-requires-clause-pieces : goal.append_all-requires-clause-pieces
append_all-requires-clause-pieces g c = rw c.as_slice-2.ensures.value c.next.invariant.fine

pub returns-clause-made : goal.returns-clause-made
returns-clause-made g c =
    runs_join g.P.Piece.entries g.P.Piece.size g.P.Piece.least c.in_ok-out.out.items c.self.inside.pieces.items c.next.inside.pieces.items c.share_all.new.out.items c.append_all.new.out.items c.args.self.now c.args.next.now _ c.in_ok-copied.copied
    (ap length c.in_ok-out.ensures.items) (rw c.as_slice.ensures.value at c.in_ok-share_all.ensures) c.self.view_is c.next.view_is (rw c.as_slice-2.ensures.value at c.in_ok-copied.ensures) c.in_ok-runs.ensures

pub returns-clause-few : goal.returns-clause-few
returns-clause-few g c = c.in_ok-copied.ensures.few
