use Rattle.cat_tables.proofs.Places.{indexed_alike}
use Rattle.cat_tables.proofs.batch.Batch.reserve.Goals as goal

pub invariant_of-self-2 : goal.invariant_of-self-2
invariant_of-self-2 g c = rw c.try_reserve.ensures.items (indexed_alike _ _ _ c.self.invariant (λ hash. c.reserve.ensures.entries.2 hash))
