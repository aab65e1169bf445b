use Rattle.std.proofs.Common.{◌∙◌, arith, sym}
use Rattle.cat_graph.proofs.Members.{back_end, back_next, back_none_left}
use Rattle.cat_graph.proofs.Walks.{nothing_there}
use Rattle.cat_graph.proofs.graph.Graph.walked_back.Goals as goal

pub returns-in_default : goal.returns-in_default
returns-in_default c =
    let none = nothing_there c.get.result _ c.get.ensures c.in_default.is in
    sym (back_end c.args.self.now c.loop-left.at c.loop-left.left none c.loop-left-test.true) ∙ c.loop-left.invariant

pub loop-left-preserved : goal.loop-left-preserved
loop-left-preserved c =
    back_next c.args.self.now c.loop-left.at c.in-Some.child.now c.loop-left.left c.known.ensures (sym c.in-Some.ensures) c.loop-left-test.true ∙ c.loop-left.invariant

pub returns : goal.returns
returns c = sym (back_none_left c.args.self.now c.loop-left.at c.loop-left.left (omega (arith, c.loop-left-test.false))) ∙ c.loop-left.invariant
