use Rattle.std.proofs.Common.{◌≡◌, ◌∙◌, ◌∷◌, [], length, refl, sym, ap, arith, append_assoc, length-append}
use Rattle.std.specs.Vec.Iter.{into_iter_items}
use Rattle.cat_ordered.proofs.Lists.{seam}
use Rattle.cat_ordered.proofs.next.next_of.Goals as goal

pub loop-rest-init : goal.loop-rest-init
loop-rest-init g c = record { whole = rw c.in_ok-out.ensures.items refl; few = rw c.in_ok-out.ensures.items (omega arith) }

pub unreachable-requires : goal.unreachable-requires
unreachable-requires g c =
    let left : length (into_iter_items c.loop-rest.rest) ≡ 0 = omega (arith, c.loop-rest.rest.rest.ok.0, c.in_default.ensures.cases.0) in
    let all = ap length (sym c.loop-rest.invariant.whole) ∙ length-append c.loop-rest.out.items (into_iter_items c.loop-rest.rest) in
    omega (arith, c.requires, all, left, c.loop-rest-test.true, c.len.ensures, c.loop-rest.out.ok.0)

pub loop-rest-smaller : goal.loop-rest-smaller
loop-rest-smaller g c = rw c.in_ok-push.ensures.items (omega (arith, length-append c.loop-rest.out.items (c.in-Some.item ∷ []), c.loop-rest-test.true, c.len.ensures, c.loop-rest.out.ok.0))

pub loop-rest-preserved : goal.loop-rest-preserved
loop-rest-preserved g c = record {
  whole = rw (c.in_ok-push.ensures.items, append_assoc c.loop-rest.out.items (c.in-Some.item ∷ []) (into_iter_items c.next.new.self), ← c.in-Some.ensures.items) c.loop-rest.invariant.whole;
  few = rw c.in_ok-push.ensures.items (omega (arith, length-append c.loop-rest.out.items (c.in-Some.item ∷ []), c.loop-rest-test.true, c.len.ensures, c.loop-rest.out.ok.0));
}

pub returns-clause-taken : goal.returns-clause-taken
returns-clause-taken g c = (seam c.args.n c.loop-rest.out.items (into_iter_items c.loop-rest.rest) (into_iter_items c.args.rest.now) c.loop-rest.invariant.whole (omega (arith, c.loop-rest.invariant.few, c.loop-rest-test.false, c.len.ensures, c.loop-rest.out.ok.0))).0

pub returns-clause-left : goal.returns-clause-left
returns-clause-left g c = (seam c.args.n c.loop-rest.out.items (into_iter_items c.loop-rest.rest) (into_iter_items c.args.rest.now) c.loop-rest.invariant.whole (omega (arith, c.loop-rest.invariant.few, c.loop-rest-test.false, c.len.ensures, c.loop-rest.out.ok.0))).1
