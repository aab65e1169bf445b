use Rattle.cat_keeper.specs.MemoryKeepers.{keeper_failing, keeper_next}
use Rattle.cat_keeper.proofs.Failing.{not_listed}
use Rattle.cat_keeper.proofs.memory_keeper.MemKeeperKeeper.entry.Goals as goal
use Rattle.std.proofs.Common.{rules}

pub returns-in-Ok-clause-fails : goal.returns-in-Ok-clause-fails
returns-in-Ok-clause-fails c =
    (λ err. absurd cc, λ listed. absurd (not_listed (keeper_failing c.args.self.now) (keeper_next c.args.self.now) c.saturating_add-self.result c.contains.result (search rules) (search rules) c.if-contains.false listed))

pub returns-in-Err-clause-fails : goal.returns-in-Err-clause-fails
returns-in-Err-clause-fails c =
    (λ err. absurd cc, λ listed. absurd (not_listed (keeper_failing c.args.self.now) (keeper_next c.args.self.now) c.saturating_add-self.result c.contains.result (search rules) (search rules) c.if-contains.false listed))
