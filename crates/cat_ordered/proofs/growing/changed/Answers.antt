use Rattle.std.proofs.Common.{◌≡◌, Option, None, false, ◌<◌, ◌≤◌, ◌-◌, ◌*◌, ◌+◌, length, refl, sym, ◌∙◌, arith, length-drop, add-mul}
use Rattle.std.proofs.lemmas.Bool.{eqb-true, eqb-false}
use Rattle.std.specs.List.{flat_map}
use Rattle.cat_ordered.specs.Maps.{begins_by, share_of}
use Rattle.cat_ordered.specs.Pieces.{debt}
use Rattle.cat_ordered.specs.Shared.{values}
use Rattle.cat_ordered.proofs.Order.{ascends_drop, ascends_take}
use Rattle.cat_ordered.proofs.Runs.{none_in, fine_front}
use Rattle.cat_ordered.proofs.Seats.{piece_at, map_at}
use Rattle.cat_ordered.proofs.Walks.{fine_rest, map_rest, begins_behind, share_first, large_before, large_after, left_over, walk_more, walk_end, walk_spent}
use Rattle.cat_ordered.proofs.growing.changed.Goals as goal

pub changed-requires-clause-map : goal.changed-requires-clause-map
changed-requires-clause-map g c = rw c.empty.ensures.no_pairs refl

pub changed-requires-clause-fits : goal.changed-requires-clause-fits
changed-requires-clause-fits g c = omega (arith, c.empty.ensures.no_parts)

pub returns-then-is_empty : goal.returns-then-is_empty
returns-then-is_empty g c =
    let none : length c.args.pieces.now ≡ 0 = eqb-true _ 0 (sym c.is_empty.ensures ∙ c.if-is_empty.true) in
    record {
      made = rw (none_in g.P.Piece.entries g.P.Piece.size g.P.Piece.least c.args.pieces.now none) (rw c.empty.ensures.no_pairs at c.in_ok-made.ensures.made);
      few = omega (arith, c.in_ok-made.ensures.few, add-mul g.P.Piece.rate 128 (length c.args.changes.now));
    }

pub loop-left-init : goal.loop-left-init
loop-left-init g c =
    let some : 0 < length c.args.pieces.now = omega (arith, eqb-false _ 0 (sym c.is_empty.ensures ∙ c.if-is_empty.false)) in
    rw c.in_ok-out.ensures.items (record {
      made = record { pieces = tt; large = λ two. absurd (omega arith) };
      fine = c.requires.fine;
      map = c.requires.map;
      ascend = c.requires.ascend;
      shorter = omega arith;
      some = λ more. some;
      large = λ lt. absurd (omega arith);
      whole = refl;
      spent = omega arith;
    })

pub seat-at-requires-clause-some : goal.seat-at-requires-clause-some
seat-at-requires-clause-some g c = c.loop-left.invariant.some (omega (arith, eqb-false _ 0 (sym c.is_empty-in-loop-left.ensures ∙ c.loop-left-test.true)))

pub share-n-requires : goal.share-n-requires
share-n-requires g c = fine_rest g.P.Piece.entries g.P.Piece.size g.P.Piece.least c.loop-left.rest.now _ _ c.rest_of-others.ensures c.loop-left.invariant.fine

pub append_all-requires-clause-pieces : goal.append_all-requires-clause-pieces
append_all-requires-clause-pieces g c = fine_front g.P.Piece.entries g.P.Piece.size g.P.Piece.least c.loop-left.rest.now _ _ c.front_of-front.ensures c.loop-left.invariant.fine

pub add-requires-clause-piece : goal.add-requires-clause-piece
add-requires-clause-piece g c = piece_at g.P.Piece.entries g.P.Piece.size g.P.Piece.least c.loop-left.rest.now _ c.index-rest-at.result c.loop-left.invariant.fine c.seat-at.ensures.within c.index-rest-at.is

pub add-requires-clause-map : goal.add-requires-clause-map
add-requires-clause-map g c = map_at g.K.Ord.cmp g.met.K.Ord.total g.P.Piece.entries g.P.Piece.size g.P.Piece.least c.loop-left.rest.now _ c.index-rest-at.result c.loop-left.invariant.map c.seat-at.ensures.within c.index-rest-at.is

pub add-requires-clause-ascend : goal.add-requires-clause-ascend
add-requires-clause-ascend g c = rw c.first_changes-first.ensures (ascends_take g.K.Ord.cmp g.met.K.Ord.total {V = Option g.row.V.Denot} None _ c.loop-left.left.now c.loop-left.invariant.ascend)

pub loop-left-preserved : goal.loop-left-preserved
loop-left-preserved g c =
    let list = c.loop-left.rest.now in
    let left = c.loop-left.left.now in
    let at = c.seat-at.result.0 in
    let others = c.rest_of-others.result.now in
    let n = 1 + c.share-n.result in
    let so_far = c.loop-left.invariant in
    let some : 0 < length left = omega (arith, eqb-false _ 0 (sym c.is_empty-in-loop-left.ensures ∙ c.loop-left-test.true)) in
    let begins : begins_by g.K.Ord.cmp (flat_map g.P.Piece.entries (values others)) c.index-left-0.result.0 ≡ false =
    begins_behind g.K.Ord.cmp g.met.K.Ord.total g.P.Piece.entries g.P.Piece.size g.P.Piece.least list others (at + 1) c.key.result.now c.index-left-0.result.0 c.rest_of-others.ensures c.key.ensures c.seat-at.ensures.after in
    let count : n ≡ share_of g.K.Ord.cmp left (flat_map g.P.Piece.entries (values others)) =
    share_first g.K.Ord.cmp g.met.K.Ord.total left c.other_changes-later.result.now c.index-left-0.result (flat_map g.P.Piece.entries (values others)) c.share-n.result some c.index-left-0.is begins c.other_changes-later.ensures c.share-n.ensures.share in
    let level = c.in_ok-joined.ensures.level (large_before g.K.Ord.cmp g.met.K.Ord.total g.P.Piece.entries g.P.Piece.size g.P.Piece.least list c.front_of-front.result.now at c.front_of-front.ensures so_far.fine c.seat-at.ensures.within) in
    record {
      made = c.in_ok-copies.ensures.made.fine;
      fine = fine_rest g.P.Piece.entries g.P.Piece.size g.P.Piece.least list others (at + 1) c.rest_of-others.ensures so_far.fine;
      map = map_rest g.K.Ord.cmp g.met.K.Ord.total g.P.Piece.entries g.P.Piece.size g.P.Piece.least list others (at + 1) c.rest_of-others.ensures so_far.map;
      ascend = rw c.other_changes-left.ensures (ascends_drop g.K.Ord.cmp g.met.K.Ord.total {V = Option g.row.V.Denot} n left so_far.ascend);
      shorter = rw c.other_changes-left.ensures (omega (arith, length-drop n left, so_far.shorter));
      some = left_over g.K.Ord.cmp g.met.K.Ord.total g.P.Piece.entries g.P.Piece.size g.P.Piece.least others left c.other_changes-left.result.now n count c.other_changes-left.ensures;
      large = λ lt. large_after g.K.Ord.cmp g.met.K.Ord.total g.P.Piece.entries g.P.Piece.size g.P.Piece.least list others at c.rest_of-others.ensures so_far.fine c.seat-at.ensures.within;
      whole =
          walk_more g.K.Ord.cmp g.met.K.Ord.total g.P.Piece.entries g.P.Piece.size g.P.Piece.least list c.front_of-front.result.now others at c.index-rest-at.result c.key.result.now (values c.loop-left.out.items) (values c.append_all.new.out.items) (values c.add.new.out.items)
          c.index-left-0.result left c.first_changes-first.result.now c.other_changes-left.result.now n _ so_far.map c.seat-at.ensures.within c.index-rest-at.is c.front_of-front.ensures c.rest_of-others.ensures
          so_far.ascend some c.index-left-0.is c.key.ensures c.seat-at.ensures.before count c.first_changes-first.ensures c.other_changes-left.ensures c.in_ok-joined.ensures.whole c.in_ok-copies.ensures.made so_far.whole;
      spent =
          walk_spent g.K.Ord.cmp g.met.K.Ord.total g.P.Piece.entries g.P.Piece.size g.P.Piece.least left c.first_changes-first.result.now c.other_changes-left.result.now n others (g.P.Piece.rate + 128) (length c.args.changes.now) c.loop-left.copied (c.in_ok-joined.joined + c.in_ok-copies.copies) _
          (debt g.P.Piece.entries g.P.Piece.size g.P.Piece.least (values c.loop-left.out.items)) (debt g.P.Piece.entries g.P.Piece.size g.P.Piece.least (values c.add.new.out.items)) count c.first_changes-first.ensures c.other_changes-left.ensures
          (omega arith) so_far.spent (omega (arith, level, c.in_ok-copies.ensures.spent)) so_far.shorter;
    }

pub returns-clause-made : goal.returns-clause-made
returns-clause-made g c =
    let none : length c.loop-left.left.now ≡ 0 = eqb-true _ 0 (sym c.is_empty-in-loop-left.ensures ∙ c.loop-left-test.false) in
    record {
      whole = walk_end g.K.Ord.cmp g.met.K.Ord.total g.P.Piece.entries g.P.Piece.size g.P.Piece.least c.loop-left.rest.now (values c.loop-left.out.items) (values c.append_all-2.new.out.items) c.loop-left.left.now _ none c.in_ok-last.ensures.whole c.loop-left.invariant.whole;
      fine = c.in_ok-last.ensures.fine;
    }

pub returns-clause-few : goal.returns-clause-few
returns-clause-few g c =
    let none : length c.loop-left.left.now ≡ 0 = eqb-true _ 0 (sym c.is_empty-in-loop-left.ensures ∙ c.loop-left-test.false) in
    let all : length c.args.changes.now - length c.loop-left.left.now ≡ length c.args.changes.now = omega arith in
    let level = c.in_ok-last.ensures.level (c.loop-left.invariant.large (omega (arith, c.requires.some))) in
    let spent : c.loop-left.copied + debt g.P.Piece.entries g.P.Piece.size g.P.Piece.least (values c.loop-left.out.items) ≤ (g.P.Piece.rate + 128) * length c.args.changes.now = rw all at c.loop-left.invariant.spent in
    omega (arith, level, spent)
