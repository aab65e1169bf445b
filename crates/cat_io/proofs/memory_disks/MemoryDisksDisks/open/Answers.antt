use Rattle.std.proofs.Common.{rules}
use Rattle.cat_io.proofs.Naming.{handed_at}
use Rattle.cat_io.proofs.memory_disks.MemoryDisksDisks.open.Goals as goal

pub returns-in-Some-clause-given : goal.returns-in-Some-clause-given
returns-in-Some-clause-given c = handed_at _ c.in-Some.disk c.handed.result (search rules) c.handed.ensures
