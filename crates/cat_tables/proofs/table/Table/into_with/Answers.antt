use Rattle.std.proofs.Common.{◌≡◌, ◌∙◌, ◌++◌, ◌+◌, ◌<◌, ◌^◌, List, Option, None, reverse, length, true, ap, sym, subst, arith}
use Rattle.std.proofs.lemmas.List.{length-reverse}
use Rattle.cat_codes.specs.Code.{ascends}
use Rattle.cat_names.specs.declared.hash.Hash.{Hash}
use Rattle.cat_ordered.specs.Maps.{after_changes}
use Rattle.cat_tables.specs.Arrivals.{arrived}
use Rattle.cat_tables.specs.HashOrder.{hash_cmp}
use Rattle.cat_tables.specs.Tables.{Recorded, are_distinct}
use Rattle.cat_tables.specs.declared.table.Placed.{Placed}
use Rattle.cat_tables.proofs.Additions.{sorted_ascend, placed_all, sum_is}
use Rattle.cat_tables.proofs.table.Table.into_with.Goals as goal

pub into_changes-requires : goal.into_changes-requires
into_changes-requires g c =
    let items = c.more.inside.items.items in
    let placed = c.self.inside.placed in
    let n = c.self.inside.next in
    let newer : c.args.more.list ≡ reverse items = ap (λ (r : Recorded g.row.V.Denot). r.list) (sym c.more.view_is) in
    let whole : c.args.more.list ++ c.args.self ≡ reverse items ++ arrived n placed = λ i. newer i ++ sym c.self.view_is i in
    let distinct = subst (λ (l : List (Hash × g.row.V.Denot)). are_distinct l ≡ true) whole c.requires in
    let moved = c.in_ok-changes.ensures.same in
    let up = sorted_ascend n items (arrived n placed) c.in_ok-changes.changes.items distinct moved c.in_ok-changes.ensures.order in
    subst (λ (l : List (Hash × Option (Placed g.row.V.Denot))). ascends hash_cmp None l ≡ true) (sym c.as_slice.ensures.value) up

pub invariant_of-result : goal.invariant_of-result
invariant_of-result g c =
    let items = c.more.inside.items.items in
    let placed = c.self.inside.placed in
    let n = c.self.inside.next in
    let newer : c.args.more.list ≡ reverse items = ap (λ (r : Recorded g.row.V.Denot). r.list) (sym c.more.view_is) in
    let whole : c.args.more.list ++ c.args.self ≡ reverse items ++ arrived n placed = λ i. newer i ++ sym c.self.view_is i in
    let distinct = subst (λ (l : List (Hash × g.row.V.Denot)). are_distinct l ≡ true) whole c.requires in
    let moved = c.in_ok-changes.ensures.same in
    let changed = c.in_ok-into_changes.ensures ∙ ap (λ (l : List (Hash × Option (Placed g.row.V.Denot))). after_changes hash_cmp l placed) c.as_slice.ensures.value in
    let size = length-reverse items in
    let list = ap length newer in
    let sum = sum_is (n + c.len.result < 2 ^ 64) c.checked_add.result c.in_ok-next.next (n + c.len.result) c.checked_add.ensures c.in_ok-next.ensures.ok_part in
    let long : c.in_ok-next.next ≡ length items + n = omega (arith, size, list, sum) in
    (placed_all n c.in_ok-next.next items placed c.in_ok-into_changes.field-0 c.in_ok-changes.changes.items c.self.invariant long distinct moved c.in_ok-changes.ensures.order changed).0

pub returns : goal.returns
returns g c =
    let items = c.more.inside.items.items in
    let placed = c.self.inside.placed in
    let n = c.self.inside.next in
    let newer : c.args.more.list ≡ reverse items = ap (λ (r : Recorded g.row.V.Denot). r.list) (sym c.more.view_is) in
    let whole : c.args.more.list ++ c.args.self ≡ reverse items ++ arrived n placed = λ i. newer i ++ sym c.self.view_is i in
    let distinct = subst (λ (l : List (Hash × g.row.V.Denot)). are_distinct l ≡ true) whole c.requires in
    let moved = c.in_ok-changes.ensures.same in
    let changed = c.in_ok-into_changes.ensures ∙ ap (λ (l : List (Hash × Option (Placed g.row.V.Denot))). after_changes hash_cmp l placed) c.as_slice.ensures.value in
    let size = length-reverse items in
    let list = ap length newer in
    let sum = sum_is (n + c.len.result < 2 ^ 64) c.checked_add.result c.in_ok-next.next (n + c.len.result) c.checked_add.ensures c.in_ok-next.ensures.ok_part in
    let long : c.in_ok-next.next ≡ length items + n = omega (arith, size, list, sum) in
    (placed_all n c.in_ok-next.next items placed c.in_ok-into_changes.field-0 c.in_ok-changes.changes.items c.self.invariant long distinct moved c.in_ok-changes.ensures.order changed).1 ∙ sym whole
