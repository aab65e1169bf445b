use Rattle.std.proofs.Common.{arith}
use Rattle.cat_keeper.specs.Bases.{base_end-le}
use Rattle.cat_keeper.proofs.memory_keeper.MemKeeperKeeper.count.Goals as goal

pub overflow_sub-result : goal.overflow_sub-result
overflow_sub-result c = omega (arith, c.args.self.now.started, base_end-le c.args.self.now.payloads.items, c.len.ensures)
