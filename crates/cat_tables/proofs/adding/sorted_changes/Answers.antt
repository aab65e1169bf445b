use Rattle.std.proofs.Common.{rules, Option}
use Rattle.std.specs.Ordering.{is_lt}
use Rattle.std.proofs.lemmas.List.Sorted.{ranks_by, answers_always}
use Rattle.cat_names.specs.declared.hash.Hash.{Hash}
use Rattle.cat_tables.specs.HashOrder.{hash_cmp}
use Rattle.cat_tables.specs.declared.table.Placed.{Placed}
use Rattle.cat_tables.proofs.Arriving.{hash_total}
use Rattle.cat_tables.proofs.adding.sorted_changes.Goals as goal

pub returns-clause-order : goal.returns-clause-order
returns-clause-order g c =
    c.sort_unstable_by.ensures.sorted (λ (a : Hash × Option (Placed g.row.V.Denot)) (b : Hash × Option (Placed g.row.V.Denot)). is_lt (hash_cmp a.0 b.0)) (ranks_by hash_total (λ (x : Hash × Option (Placed g.row.V.Denot)). x.0)) (answers_always _ _ _ (λ f a r g h. search rules))
