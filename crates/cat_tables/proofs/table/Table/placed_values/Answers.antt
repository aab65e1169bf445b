use Rattle.std.proofs.Common.{◌≡◌, ◌∙◌, Some, length, map, arith}
use Rattle.cat_tables.specs.Sorted.{as_pair}
use Rattle.cat_tables.proofs.Sorting.{size_of, fills_from, fills_on, fills_all}
use Rattle.cat_tables.proofs.table.Table.placed_values.Goals as goal

pub loop-pair-init : goal.loop-pair-init
loop-pair-init g c =
    let all : c.loop.counter ≡ c.self.inside.next = omega (arith, c.loop-test.false, c.loop.invariant.within) in
    fills_from c.self.inside.next c.loop.counter c.loop.slots.items c.self.inside.placed c.walk-rest.result c.self.invariant c.walk-rest.ensures all c.loop.invariant.empty

pub loop-pair-preserved : goal.loop-pair-preserved
loop-pair-preserved g c =
    let all : c.loop.counter ≡ c.self.inside.next = omega (arith, c.loop-test.false, c.loop.invariant.within) in
    fills_on c.self.inside.next (length c.loop.slots.items) c.loop-pair.slots.items _ c.in-Some.pair.now _ c.loop-pair.rest c.next.new.self c.self.inside.placed c.walk-rest.result c.self.invariant c.walk-rest.ensures
    (size_of c.loop.slots.items c.loop.counter c.loop.invariant.empty ∙ all) c.loop-pair.invariant c.in-Some.ensures.found c.in-Some.ensures.left (λ i. (c.value-in-Some.ensures i).place) (λ i. Some (c.key.ensures i, (c.value.ensures i).value))

pub returns : goal.returns
returns g c =
    let all : c.loop.counter ≡ c.self.inside.next = omega (arith, c.loop-test.false, c.loop.invariant.within) in
    fills_all c.self.inside.next (length c.loop.slots.items) (map as_pair c.loop-pair.slots.items) c.loop-pair.rest c.self.inside.placed c.walk-rest.result c.args.self.now c.self.invariant c.walk-rest.ensures
    (size_of c.loop.slots.items c.loop.counter c.loop.invariant.empty ∙ all) c.loop-pair.invariant c.in_default.ensures.found c.self.view_is
