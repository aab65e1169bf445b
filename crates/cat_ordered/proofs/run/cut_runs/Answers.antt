use Rattle.std.proofs.Common.{◌≡◌, ◌+◌, ◌<◌, ◌≤◌, ◌++◌, ◌∙◌, length, refl, ap, arith, take_all}
use Rattle.std.specs.List.{flat_map}
use Rattle.std.specs.Vec.Iter.{into_iter_items}
use Rattle.cat_ordered.specs.Shared.{values}
use Rattle.cat_ordered.proofs.Cutting.{cut_start, cut_off, cut_end}
use Rattle.cat_ordered.proofs.Lists.{take_drop, length_of_take, length_of_drop}
use Rattle.cat_ordered.proofs.Runs.{fine_front, value_halves, run_of_pieces}
use Rattle.cat_ordered.proofs.Walks.{fine_rest}
use Rattle.cat_ordered.proofs.run.cut_runs.Goals as goal

pub loop-alloc-init : goal.loop-alloc-init
loop-alloc-init g c = record {
  fine = rw c.into_iter-rest.ensures.rest c.requires.fine;
  cut = rw (c.new-out.ensures.items, c.into_iter-rest.ensures.rest) (cut_start _ _ _ _ _);
}

pub run_of-requires : goal.run_of-requires
run_of-requires g c = fine_front g.P.Piece.entries g.P.Piece.size g.P.Piece.least (into_iter_items c.loop-alloc.rest) _ 16 c.in_ok-front.ensures.taken c.loop-alloc.invariant.fine

pub loop-alloc-smaller : goal.loop-alloc-smaller
loop-alloc-smaller g c =
    let rest = into_iter_items c.loop-alloc.rest in
    let lt : 32 < length rest = omega (arith, c.loop-alloc-test.true, c.len.ensures, c.loop-alloc.rest.rest.ok.0) in
    rw c.in_ok-front.ensures.left (omega (arith, length_of_drop 16 rest (omega arith)))

pub loop-alloc-preserved : goal.loop-alloc-preserved
loop-alloc-preserved g c =
    let rest = into_iter_items c.loop-alloc.rest in
    let front = c.in_ok-front.front.items in
    let others = into_iter_items c.next_of.new.rest in
    let lt : 32 < length rest = omega (arith, c.loop-alloc-test.true, c.len.ensures, c.loop-alloc.rest.rest.ok.0) in
    let size : length front ≡ 16 = ap length c.in_ok-front.ensures.taken ∙ length_of_take 16 rest (omega arith) in
    let left : length others + 16 ≡ length rest = rw c.in_ok-front.ensures.left (length_of_drop 16 rest (omega arith)) in
    let parts : rest ≡ front ++ others = rw (c.in_ok-front.ensures.taken, c.in_ok-front.ensures.left) (take_drop 16 rest) in
    let fine = fine_front g.P.Piece.entries g.P.Piece.size g.P.Piece.least rest front 16 c.in_ok-front.ensures.taken c.loop-alloc.invariant.fine in
    record {
      fine = fine_rest g.P.Piece.entries g.P.Piece.size g.P.Piece.least rest others 16 c.in_ok-front.ensures.left c.loop-alloc.invariant.fine;
      cut =
          cut_off _ _ _ (flat_map g.P.Piece.entries (values c.args.pieces.items)) (length c.args.pieces.items) c.loop-alloc.out.items c.push.new.self.items c.in_ok-new.field-0
          (record { entries = flat_map g.P.Piece.entries (values front); size = length front })
          (flat_map g.P.Piece.entries (values rest)) (flat_map g.P.Piece.entries (values others)) (length rest) (length others)
          c.loop-alloc.invariant.cut c.in_ok-push.ensures.items (c.in_ok-new.ensures.ok ∙ c.in_ok-run.ensures) (value_halves g.P.Piece.entries g.P.Piece.size g.P.Piece.least rest front others parts)
          (run_of_pieces g.P.Piece.entries g.P.Piece.size g.P.Piece.least front fine (omega arith) (omega arith)) size lt left;
    }

pub run_of-requires-2 : goal.run_of-requires-2
run_of-requires-2 g c =
    let last : c.in_ok-last.last.items ≡ into_iter_items c.loop-alloc.rest = c.in_ok-last.ensures.taken ∙ take_all c.len-left.result (into_iter_items c.loop-alloc.rest) (omega (arith, c.len-left.ensures, c.loop-alloc.rest.rest.ok.0)) in
    rw last c.loop-alloc.invariant.fine

pub returns : goal.returns
returns g c =
    let rest = into_iter_items c.loop-alloc.rest in
    let many : 16 ≤ length rest = c.loop-alloc.invariant.cut.cut.many (omega (arith, c.requires.many)) in
    let le : length rest ≤ 32 = omega (arith, c.loop-alloc-test.false, c.len.ensures, c.loop-alloc.rest.rest.ok.0) in
    let last : c.in_ok-last.last.items ≡ rest = c.in_ok-last.ensures.taken ∙ take_all c.len-left.result rest (omega (arith, c.len-left.ensures, c.loop-alloc.rest.rest.ok.0)) in
    let run = rw last at (c.in_ok-new-2.ensures.ok ∙ c.in_ok-run-2.ensures) in
    cut_end _ _ _ (flat_map g.P.Piece.entries (values c.args.pieces.items)) (length c.args.pieces.items) c.loop-alloc.out.items c.push-2.new.self.items c.in_ok-new-2.field-0
    (record { entries = flat_map g.P.Piece.entries (values rest); size = length rest }) (flat_map g.P.Piece.entries (values rest)) (length rest)
    c.loop-alloc.invariant.cut c.in_ok-push-2.ensures.items run refl (run_of_pieces g.P.Piece.entries g.P.Piece.size g.P.Piece.least rest c.loop-alloc.invariant.fine (omega arith) (omega arith)) refl
