use Rattle.std.proofs.Common.{ap, ◌∙◌, arith}
use Rattle.cat_ordered.specs.Shared.{values}
use Rattle.cat_ordered.proofs.InPlace.{fine_before, fine_behind, put_appended}
use Rattle.cat_ordered.proofs.Seats.{values-drop, values-take}
use Rattle.cat_ordered.proofs.owned.insert_all.Goals as goal

pub append_all-requires-clause-fine : goal.append_all-requires-clause-fine
append_all-requires-clause-fine g c =
    fine_before g.P.Piece.entries g.P.Piece.size g.P.Piece.least (values c.args.others.items) (values c.split_off.new.self.items) c.args.at c.requires.pieces c.requires.large (ap values c.in_ok-back.ensures.items ∙ values-take c.args.at c.args.others.items)

pub append_all-requires-clause-pieces : goal.append_all-requires-clause-pieces
append_all-requires-clause-pieces g c = rw c.as_slice.ensures.value c.requires.fine

pub append_all-requires-2-clause-fine : goal.append_all-requires-2-clause-fine
append_all-requires-2-clause-fine g c = c.in_ok-joined.ensures.fine

pub append_all-requires-2-clause-pieces : goal.append_all-requires-2-clause-pieces
append_all-requires-2-clause-pieces g c =
    rw c.as_slice-2.ensures.value (fine_behind g.P.Piece.entries g.P.Piece.size g.P.Piece.least (values c.args.others.items) (values c.in_ok-back.back.items) c.args.at c.requires.pieces c.requires.large (ap values c.in_ok-back.ensures.tail ∙ values-drop c.args.at c.args.others.items))

pub returns : goal.returns
returns g c =
    let both = put_appended g.P.Piece.entries g.P.Piece.size g.P.Piece.least (values c.args.others.items) (values c.args.made.pieces.items) (values c.split_off.new.self.items) (values c.in_ok-back.back.items) (values c.append_all.new.out.items) (values c.append_all-2.new.out.items)
    c.args.at c.in_ok-joined.joined c.in_ok-last.last c.requires.large (ap values c.in_ok-back.ensures.items ∙ values-take c.args.at c.args.others.items) (ap values c.in_ok-back.ensures.tail ∙ values-drop c.args.at c.args.others.items)
    (rw c.as_slice.ensures.value at c.in_ok-joined.ensures) (rw c.as_slice-2.ensures.value at c.in_ok-last.ensures) in
    record { inserts = both.0; few = omega (arith, both.1) }
