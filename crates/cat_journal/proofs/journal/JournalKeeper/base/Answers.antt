use Rattle.std.proofs.Common.{arith}
use Rattle.cat_journal.proofs.Gates.{base_value, no_base_value}
use Rattle.cat_journal.proofs.journal.JournalKeeper.base.Goals as goal

pub returns-then-self-eq0-clause-value : goal.returns-then-self-eq0-clause-value
returns-then-self-eq0-clause-value g c = let j = c.args.self.now in no_base_value (g.D.Disk.told j.disk) j.points j.held (omega arith)

pub returns-in-Ok-from_vec-clause-value : goal.returns-in-Ok-from_vec-clause-value
returns-in-Ok-from_vec-clause-value g c =
    let j = c.args.self.now in
    rw c.in-Ok-from_vec.ensures.bytes
    (base_value (g.D.Disk.told j.disk) j.points c.read_payload.new.buffer.items (omega (arith, j.fits)) j.held (omega arith) c.in-Ok.ensures.value)
