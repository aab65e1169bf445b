use Rattle.cat_ordered.proofs.Changes.{goes_on, IsMap-above, is_done}
use Rattle.cat_ordered.proofs.block.changed_pairs.Goals as goal

pub loop-change-preserved : goal.loop-change-preserved
loop-change-preserved g c = record {
  order = rw c.in_ok-left.ensures.0 (IsMap-above g.K.Ord.cmp g.met.K.Ord.total c.loop-change.left.now c.change-item.result.0 c.loop-change.invariant.order);
  whole = goes_on g.K.Ord.cmp g.met.K.Ord.total _ _ c.args.changes.now c.loop-change.change-index c.change-item.result c.loop-change.left.now _ _ c.loop-change-test.true c.change-item.is c.requires.ascend c.in_ok-left.ensures.0 c.in_ok-left.ensures.1 c.loop-change.invariant.whole;
}

pub returns : goal.returns
returns g c = is_done g.K.Ord.cmp g.met.K.Ord.total c.loop-change.out.items c.copy_into.new.out.items c.args.changes.now c.loop-change.change-index c.loop-change.left.now _ c.loop-change-test.false c.in_ok-copy_into.ensures c.loop-change.invariant.whole
