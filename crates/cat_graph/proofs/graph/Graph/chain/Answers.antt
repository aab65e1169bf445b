use Rattle.std.proofs.Common.{arith, sym}
use Rattle.cat_graph.proofs.Walks.{nothing_there, walk_more, walk_all, chain_end}
use Rattle.cat_graph.proofs.graph.Graph.chain.Goals as goal

pub loop-at-preserved : goal.loop-at-preserved
loop-at-preserved c = record {
  walked = rw c.in_ok-push.ensures.items (walk_more c.args.self.now c.loop-at.found.items c.loop-at.at c.in-Some.commit _ c.known.ensures (sym c.in-Some.ensures) c.loop-at.invariant.walked);
  few = omega arith;
}

pub returns-in_default : goal.returns-in_default
returns-in_default c =
    walk_all c.loop-at.found.items _ _ c.args.limit c.loop-at.invariant.walked (chain_end c.args.self.now c.loop-at.at.now (nothing_there c.get.result _ c.get.ensures c.in_default.is)) c.loop-at.invariant.few
