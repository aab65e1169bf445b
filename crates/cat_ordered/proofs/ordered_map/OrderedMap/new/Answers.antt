use Rattle.std.proofs.Common.{refl, arith}
use Rattle.cat_ordered.proofs.ordered_map.OrderedMap.new.Goals as goal

pub invariant_of-result : goal.invariant_of-result
invariant_of-result g c = rw c.new.ensures.items (record { map = refl; fine = record { pieces = tt; large = λ two. absurd (omega arith) }; count = refl })
