use Rattle.std.proofs.Common.{arith}
use Rattle.sha2.specs.Sha256.{sha256}
use Rattle.cat_model.specs.Walks.{content_for}
use Rattle.cat_frames.proofs.Written.{ended, goes_on, next_is}
use Rattle.cat_frames.proofs.request_fields.write_ops.Goals as goal

pub loop-op-preserved : goal.loop-op-preserved
loop-op-preserved c =
    let loop = c.loop-op in
    let next = next_is loop.op-index c.args.ops.now c.op-item.result loop.left.now (omega arith) c.op-item.is in
    let on = goes_on sha256 loop.out c.write_op.new.out loop.op-index _ (c.op-item.result, content_for c.op-item.result loop.left.now) _ c.args.out.now _ next c.in_ok-write_op.ensures.spelled c.in_ok-write_op.ensures.fits loop.invariant in
    rw c.left_after-left.ensures on

pub returns-clause-spelled : goal.returns-clause-spelled
returns-clause-spelled c draft =
    let w = c.loop-op.invariant in
    ended sha256 draft c.loop-op.out c.loop-op.op-index c.args.ops.now c.loop-op.left.now c.args.out.now _ (omega arith) w
