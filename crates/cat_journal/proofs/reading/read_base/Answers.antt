use Rattle.std.proofs.Common.{arith, rules}
use Rattle.cat_journal.proofs.Gates.{base_not_read, base_read, no_base_read}
use Rattle.cat_journal.proofs.reading.read_base.Goals as goal

pub returns-then-points-eq0-clause-found : goal.returns-then-points-eq0-clause-found
returns-then-points-eq0-clause-found g c = no_base_read (g.D.Disk.told c.args.disk.now) c.args.points.now (search rules)

pub returns-in-Ok-true-clause-found : goal.returns-in-Ok-true-clause-found
returns-in-Ok-true-clause-found g c =
    base_read c.args.points.now c.read_payload.new.buffer.items (omega arith) c.in-Ok-true.field-0 (search rules) (g.D.Disk.told c.args.disk.now) c.base_place.result c.in-Ok.ensures.value (search rules) (search rules)

pub returns-in-Ok-false-clause-found : goal.returns-in-Ok-false-clause-found
returns-in-Ok-false-clause-found g c =
    base_not_read c.args.points.now c.read_payload.new.buffer.items (omega arith) c.in-Ok-false.field-0 (search rules) (g.D.Disk.told c.args.disk.now) c.in-Ok.ensures.value (search rules)
