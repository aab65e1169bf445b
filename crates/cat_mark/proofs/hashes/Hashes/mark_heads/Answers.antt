use Rattle.std.proofs.Common.{rules}
use Rattle.cat_model.specs.Cutoffs.{live_from}
use Rattle.cat_mark.proofs.Marking.{begun, goes_on, next, on_err, stops}
use Rattle.cat_mark.proofs.hashes.Hashes.mark_heads.Goals as goal

pub loop-head-init : goal.loop-head-init
loop-head-init c = record {
  marked = begun c.args.self.now _;
  walked = c.requires.walked;
}

pub returns-in_err-mark_head-clause-err : goal.returns-in_err-mark_head-clause-err
returns-in_err-mark_head-clause-err c =
    on_err c.from_residual.result (stops _ _ _ _ _ _ _ c.loop-head.invariant.marked c.in_err-mark_head.ensures.err (next (λ x. live_from c.args.graph.now x.1 x.0) c.args.heads.now c.loop-head.head-index _ c.loop-head-test.true (search rules)))

pub loop-head-preserved : goal.loop-head-preserved
loop-head-preserved c = record {
  marked = goes_on _ _ _ _ _ _ _ c.loop-head.invariant.marked c.in_ok-mark_head.ensures.ok (next (λ x. live_from c.args.graph.now x.1 x.0) c.args.heads.now c.loop-head.head-index _ c.loop-head-test.true (search rules));
  walked = c.in_ok-mark_head.ensures.walked;
}
