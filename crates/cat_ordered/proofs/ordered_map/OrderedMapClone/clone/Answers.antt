use Rattle.std.proofs.Common.{length, ap}
use Rattle.cat_ordered.proofs.Runs.{owners_are}
use Rattle.cat_ordered.proofs.ordered_map.OrderedMapClone.clone.Goals as goal

pub invariant_of-result : goal.invariant_of-result
invariant_of-result g c = rw (owners_are c.in_ok-root.root.items c.self.inside.root.items c.share_all.new.out.items (ap length c.in_ok-root.ensures.items) (rw c.as_slice.ensures.value at c.in_ok-share_all.ensures)) c.self.invariant

pub returns : goal.returns
returns g c = record { cases = rw (owners_are c.in_ok-root.root.items c.self.inside.root.items c.share_all.new.out.items (ap length c.in_ok-root.ensures.items) (rw c.as_slice.ensures.value at c.in_ok-share_all.ensures)) c.self.view_is }
