use Rattle.cat_core.proofs.Swept.{room_refused, room_tested}
use Rattle.cat_core.proofs.replay.has_room.Goals as goal

pub returns-then-from-limits : goal.returns-then-from-limits
returns-then-from-limits c =
    rw (c.len.ensures, c.len-2.ensures, c.limits-limits.ensures.value)
    (room_tested c.args.catalogue.now c.args.sweep.now (rw (c.from.ensures, c.place.ensures, c.limits-limits.ensures.value) at c.if-from-limits.true))

pub returns-else-from-limits : goal.returns-else-from-limits
returns-else-from-limits c =
    rw (c.from.ensures, c.place.ensures, c.limits-limits.ensures.value)
    (room_refused c.args.catalogue.now c.args.sweep.now (rw (c.from.ensures, c.place.ensures, c.limits-limits.ensures.value) at c.if-from-limits.false))
