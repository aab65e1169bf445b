use Rattle.std.proofs.Common.{arith}
use Rattle.cat_decisions.proofs.Room.{sets_left}
use Rattle.cat_decisions.proofs.counting.set_count.Goals as goal

pub loop-entry-preserved : goal.loop-entry-preserved
loop-entry-preserved c =
    let more = sets_left c.args.ops.now c.loop-entry.entry-index c.loop-entry-item.result (omega arith) c.loop-entry-item.is in
    record { left = omega (arith, more, c.loop-entry.invariant.left, c.set_one-count.ensures.value (c.loop-entry-item.result).0); bound = omega (arith, c.loop-entry.invariant.bound, c.set_one-count.ensures.bound) }
