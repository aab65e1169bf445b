use Rattle.std.proofs.Common.{arith, rules}
use Rattle.cat_journal.proofs.Found.{on_ok, payload_read}
use Rattle.cat_journal.proofs.reading.read_payload.Goals as goal

pub returns-clause-value : goal.returns-clause-value
returns-clause-value g c =
    on_ok c.read_into.result _ _
    (λ part. payload_read (g.D.Disk.told c.args.disk.now) (g.D.Disk.told c.read_gate.new.disk) c.args.at c.saturating_add.result c.in-Ok.count c.read_into.new.buffer.items
    (λ small. omega (arith, c.saturating_add.ensures, small)) (search rules) c.read_gate.ensures.reads.same c.in-Ok.ensures.size part)
    c.read_into.ensures.value
