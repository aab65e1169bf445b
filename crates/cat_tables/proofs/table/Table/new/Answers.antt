use Rattle.std.proofs.Common.{refl, arith}
use Rattle.cat_tables.proofs.table.Table.new.Goals as goal

pub invariant_of-result : goal.invariant_of-result
invariant_of-result g c = rw c.new.ensures (record { below = refl; distinct = refl; alone = λ i. omega arith })

pub returns : goal.returns
returns g c = refl
