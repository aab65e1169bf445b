use Rattle.std.proofs.Common.{◌≡◌, ◌+◌, ◌<◌, ◌≤◌, ◌++◌, ◌∙◌, length, sym, ap, arith, take_all}
use Rattle.std.specs.Vec.Iter.{into_iter_items}
use Rattle.cat_ordered.proofs.Cutting.{cut_start, cut_off, cut_end}
use Rattle.cat_ordered.proofs.Lists.{take_drop, length_of_take, length_of_drop}
use Rattle.cat_ordered.proofs.Runs.{block_piece}
use Rattle.cat_ordered.proofs.block.cut_blocks.Goals as goal

pub loop-alloc-init : goal.loop-alloc-init
loop-alloc-init g c = rw (c.new-out.ensures.items, c.into_iter-rest.ensures.rest) (cut_start _ _ _ _ _)

pub loop-alloc-smaller : goal.loop-alloc-smaller
loop-alloc-smaller g c =
    let rest = into_iter_items c.loop-alloc.rest in
    let lt : 32 < length rest = omega (arith, c.loop-alloc-test.true, c.len.ensures, c.loop-alloc.rest.rest.ok.0) in
    rw c.in_ok-front.ensures.left (omega (arith, length_of_drop 16 rest (omega arith)))

pub loop-alloc-preserved : goal.loop-alloc-preserved
loop-alloc-preserved g c =
    let rest = into_iter_items c.loop-alloc.rest in
    let front = c.in_ok-front.front.items in
    let others = into_iter_items c.next_of.new.rest in
    let lt : 32 < length rest = omega (arith, c.loop-alloc-test.true, c.len.ensures, c.loop-alloc.rest.rest.ok.0) in
    let size : length front ≡ 16 = ap length c.in_ok-front.ensures.taken ∙ length_of_take 16 rest (omega arith) in
    let left : length others + 16 ≡ length rest = rw c.in_ok-front.ensures.left (length_of_drop 16 rest (omega arith)) in
    let parts : rest ≡ front ++ others = rw (c.in_ok-front.ensures.taken, c.in_ok-front.ensures.left) (take_drop 16 rest) in
    cut_off _ _ _ c.args.pairs.items (length c.args.pairs.items) c.loop-alloc.out.items c.push.new.self.items c.in_ok-new.field-0 _ rest others (length rest) (length others)
    c.loop-alloc.invariant c.in_ok-push.ensures.items c.in_ok-new.ensures.ok parts (block_piece front (omega arith) (omega arith)) size lt left

pub returns : goal.returns
returns g c =
    let rest = into_iter_items c.loop-alloc.rest in
    let some : 16 ≤ length rest = c.loop-alloc.invariant.cut.many (omega (arith, c.requires)) in
    let le : length rest ≤ 32 = omega (arith, c.loop-alloc-test.false, c.len.ensures, c.loop-alloc.rest.rest.ok.0) in
    let last : c.in_ok-last.last.items ≡ rest = c.in_ok-last.ensures.taken ∙ take_all c.len-left.result rest (omega (arith, c.len-left.ensures, c.loop-alloc.rest.rest.ok.0)) in
    cut_end _ _ _ c.args.pairs.items (length c.args.pairs.items) c.loop-alloc.out.items c.push-2.new.self.items c.in_ok-new-2.field-0 _ rest (length rest)
    c.loop-alloc.invariant c.in_ok-push-2.ensures.items c.in_ok-new-2.ensures.ok (sym last) (rw last (block_piece rest (omega arith) (omega arith))) (ap length last)
