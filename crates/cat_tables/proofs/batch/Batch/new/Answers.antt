use Rattle.cat_tables.proofs.Places.{empty_is_indexed}
use Rattle.cat_tables.proofs.batch.Batch.new.Goals as goal

pub invariant_of-result : goal.invariant_of-result
invariant_of-result g c = rw (c.new.ensures.items, c.new-2.ensures.empty) empty_is_indexed
