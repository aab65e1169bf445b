use Rattle.std.proofs.Common.{arith, reverse}
use Rattle.cat_tables.proofs.Sorting.{slot_read}
use Rattle.cat_tables.proofs.table.Table.by_arrival.Goals as goal

pub loop-slot-preserved : goal.loop-slot-preserved
loop-slot-preserved g c =
    slot_read c.loop-slot.pairs.items c.add_there.new.pairs.items c.as_slice-slot-items.result.now c.loop-slot.slot-index c.slot-item.result (reverse c.args.self.now) c.in_ok-add_there.ensures (omega arith) c.slot-item.is c.loop-slot.invariant
