use Rattle.std.proofs.Common.{refl, arith}
use Rattle.std.specs.Arc.{arc_value}
use Rattle.cat_ordered.proofs.Seats.{pushed}
use Rattle.cat_ordered.proofs.Walks.{first_owner}
use Rattle.cat_ordered.proofs.growing.append.Goals as goal

pub returns-in_ok-push_owner-in-None : goal.returns-in_ok-push_owner-in-None
returns-in_ok-push_owner-in-None g c =
    first_owner g.P.Piece.entries g.P.Piece.size g.P.Piece.least c.args.out.now.items c.pop.new.self.items c.push_owner.new.out.items (arc_value c.args.next.now)
    (omega (arith, c.in-None.ensures.cases.0, c.args.out.now.ok.0)) (omega (arith, c.in-None.ensures.cases.1, c.pop.new.self.ok.0)) c.in_ok-push_owner-in-None.ensures c.requires.piece

pub append_after-requires-clause-fine : goal.append_after-requires-clause-fine
append_after-requires-clause-fine g c = rw (← pushed c.pop.new.self.items c.args.out.now.items c.in-Some.last (arc_value c.in-Some.last) c.in-Some.ensures.items refl) c.requires.fine

pub returns-in_ok-copied-in-Some : goal.returns-in_ok-copied-in-Some
returns-in_ok-copied-in-Some g c = rw (pushed c.pop.new.self.items c.args.out.now.items c.in-Some.last (arc_value c.in-Some.last) c.in-Some.ensures.items refl) c.in_ok-copied-in-Some.ensures
