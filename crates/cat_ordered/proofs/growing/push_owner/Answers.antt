use Rattle.std.specs.Arc.{arc_value}
use Rattle.cat_ordered.proofs.Seats.{pushed}
use Rattle.cat_ordered.proofs.growing.push_owner.Goals as goal

pub returns : goal.returns
returns g c = pushed c.args.out.now.items c.push.new.self.items c.in_ok-try_clone.field-0 (arc_value c.args.piece.now) c.in_ok-push.ensures.items c.in_ok-try_clone.ensures
