use Rattle.std.proofs.Common.{◌∙◌, List, Option, None, not, filter, ap}
use Rattle.cat_model.specs.Base.{is_among}
use Rattle.cat_names.specs.declared.hash.Hash.{Hash}
use Rattle.cat_ordered.specs.Maps.{after_changes}
use Rattle.cat_tables.specs.HashOrder.{hash_cmp}
use Rattle.cat_tables.specs.declared.table.Placed.{Placed}
use Rattle.cat_tables.proofs.Removals.{removes_ascend, placed_kept}
use Rattle.cat_tables.proofs.table.Table.without.Goals as goal

pub with_changes-requires : goal.with_changes-requires
with_changes-requires g c =
    removes_ascend None c.in_ok-sorted.sorted.items c.as_slice.result.now (c.as_slice.ensures.value ∙ c.in_ok-changes.ensures) c.in_ok-sorted.ensures.order

pub invariant_of-result : goal.invariant_of-result
invariant_of-result g c =
    let placed = c.self.inside.placed in
    let changed = c.in_ok-with_changes.ensures ∙ ap (λ (l : List (Hash × Option (Placed g.row.V.Denot))). after_changes hash_cmp l placed) (c.as_slice.ensures.value ∙ c.in_ok-changes.ensures) in
    (placed_kept c.args.hashes.now c.in_ok-sorted.sorted.items c.self.inside.next placed c.in_ok-with_changes.field-0 c.self.invariant c.known.ensures c.in_ok-sorted.ensures.same changed).0

pub returns : goal.returns
returns g c =
    let placed = c.self.inside.placed in
    let changed = c.in_ok-with_changes.ensures ∙ ap (λ (l : List (Hash × Option (Placed g.row.V.Denot))). after_changes hash_cmp l placed) (c.as_slice.ensures.value ∙ c.in_ok-changes.ensures) in
    (placed_kept c.args.hashes.now c.in_ok-sorted.sorted.items c.self.inside.next placed c.in_ok-with_changes.field-0 c.self.invariant c.known.ensures c.in_ok-sorted.ensures.same changed).1
    ∙ ap (λ (l : List (Hash × g.row.V.Denot)). filter (λ x. not (is_among c.args.hashes.now x.0)) l) c.self.view_is
