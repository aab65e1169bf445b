use Rattle.std.proofs.Common.{◌≡◌, None, sym, subst, arith, length}
use Rattle.cat_tables.specs.Tables.{Recorded, value_of}
use Rattle.cat_tables.proofs.Places.{indexed_push}
use Rattle.cat_tables.proofs.batch.Batch.push.Goals as goal

pub invariant_of-self : goal.invariant_of-self
invariant_of-self g c =
    let absent = subst (λ (table : Recorded g.row.V.Denot). value_of table.list c.args.hash ≡ None) (sym c.self.view_is) c.requires.absent in
    let last : c.len-place.result ≡ length c.self.inside.items.items = omega arith in
    rw c.in-Ok-push.ensures.items (indexed_push c.args.hash c.args.value _ _ _ _ c.self.invariant absent last (λ other. c.in-Ok.ensures.updates.0 other))
