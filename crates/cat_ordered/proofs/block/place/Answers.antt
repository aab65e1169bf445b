use Rattle.std.proofs.Common.{◌∙◌, ◌+◌, ◌-◌, ◌/◌, length, sym, arith}
use Rattle.cat_ordered.proofs.Costs.{search_step}
use Rattle.cat_ordered.proofs.Found.{before_place, from_place, place_within}
use Rattle.cat_ordered.proofs.block.place.Goals as goal

pub loop-low-init : goal.loop-low-init
loop-low-init g c = record {
  order = omega arith;
  within = omega arith;
  from = omega arith;
  to = place_within g.K.Ord.cmp g.met.K.Ord.total c.args.pairs.now (g.Q.Seek.sought c.args.key.now);
  spare = omega arith;
  cost = λ some. omega arith;
}

pub loop-low-preserved-then-is_below : goal.loop-low-preserved-then-is_below
loop-low-preserved-then-is_below g c =
    let low = c.loop-low.low in
    let high = c.loop-low.high in
    let before = before_place g.K.Ord.cmp g.met.K.Ord.total c.args.pairs.now (g.Q.Seek.sought c.args.key.now) (low + (high - low) / 2) c.index-pairs-middle.result c.requires (omega arith) c.index-pairs-middle.is (sym c.is_below.ensures ∙ c.if-is_below.true) in
    let step = search_step c.loop-low.count c.saturating_add-count.result (high - low) (high - (low + (high - low) / 2 + 1)) (length c.args.pairs.now) (omega arith) c.loop-low.invariant.spare (omega arith) (omega arith) in
    record { order = omega arith; within = omega arith; from = omega arith; to = c.loop-low.invariant.to; spare = step.0; cost = λ some. step.1 }

pub loop-low-preserved : goal.loop-low-preserved
loop-low-preserved g c =
    let low = c.loop-low.low in
    let high = c.loop-low.high in
    let after = from_place g.K.Ord.cmp g.met.K.Ord.total c.args.pairs.now (g.Q.Seek.sought c.args.key.now) (low + (high - low) / 2) c.index-pairs-middle.result c.index-pairs-middle.is (sym c.is_below.ensures ∙ c.if-is_below.false) in
    let step = search_step c.loop-low.count c.saturating_add-count.result (high - low) (low + (high - low) / 2 - low) (length c.args.pairs.now) (omega arith) c.loop-low.invariant.spare (omega arith) (omega arith) in
    record { order = omega arith; within = omega arith; from = c.loop-low.invariant.from; to = after; spare = step.0; cost = λ some. step.1 }
