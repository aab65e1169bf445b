use Rattle.std.proofs.Common.{arith}
use Rattle.std.proofs.lemmas.List.{get_or_read}
use Rattle.cat_journal.proofs.Gates.{entry_value}
use Rattle.cat_journal.proofs.journal.JournalKeeper.entry.Goals as goal

pub returns-in-Ok-from_vec-clause-value : goal.returns-in-Ok-from_vec-clause-value
returns-in-Ok-from_vec-clause-value g c =
    let j = c.args.self.now in
    rw c.in-Ok-from_vec.ensures.bytes
    (entry_value (g.D.Disk.told j.disk) j.points c.args.i c.index-at.result.now c.read_payload.new.buffer.items
    (omega (arith, j.fits)) j.held c.requires (get_or_read j.points.gates.items c.args.i c.index-at.result.now c.requires c.index-at.ensures 0) c.in-Ok.ensures.value)
