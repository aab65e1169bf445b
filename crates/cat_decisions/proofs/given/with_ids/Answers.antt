use Rattle.std.proofs.Common.{arith}
use Rattle.cat_decisions.proofs.Ids.{next_is, ops_next, contents_next}
use Rattle.cat_decisions.proofs.given.with_ids.Goals as goal

pub loop-index-preserved : goal.loop-index-preserved
loop-index-preserved c =
    let next = next_is c.args.draft c.loop-index.index c.args.request.now.ops c.as_slice-op-items.result.now c.op-item.result c.loop-index.left.now c.left_after-left.result.now c.from_pair-id.result
    c.as_slice-op-items.ensures (omega arith) c.op-item.is c.from_pair-id.ensures c.left_after-left.ensures in
    record {
      ops = ops_next _ _ _ _ _ _ next c.loop-index.invariant.ops c.in_ok-give.ensures.ops;
      contents = contents_next _ _ _ _ _ _ next c.loop-index.invariant.contents c.in_ok-give.ensures.contents;
      hashes = c.in_ok-give.ensures.hashes;
    }
