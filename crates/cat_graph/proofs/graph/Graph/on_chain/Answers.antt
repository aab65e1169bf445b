use Rattle.std.proofs.Common.{◌∙◌, sym}
use Rattle.std.proofs.lemmas.Bool.{not-true, not-false}
use Rattle.cat_model.specs.Same.{same_hash}
use Rattle.cat_graph.proofs.Walks.{nothing_there, on_chain_end, on_chain_here, on_chain_next, shorter}
use Rattle.cat_graph.proofs.graph.Graph.on_chain.Goals as goal

pub returns-in_default : goal.returns-in_default
returns-in_default c =
    let other = not-true (same_hash c.loop-at.at c.args.hash.now) (sym c.ne.ensures ∙ c.loop-at-test.true) in
    let none = nothing_there c.get.result _ c.get.ensures c.in_default.is in
    sym other ∙ sym (on_chain_end c.args.self.now c.loop-at.at c.args.hash.now none) ∙ c.loop-at.invariant

pub loop-at-smaller : goal.loop-at-smaller
loop-at-smaller c = shorter c.args.self.now c.loop-at.at c.in-Some.commit.now c.known.ensures (sym c.in-Some.ensures)

pub loop-at-preserved : goal.loop-at-preserved
loop-at-preserved c =
    let other = not-true (same_hash c.loop-at.at c.args.hash.now) (sym c.ne.ensures ∙ c.loop-at-test.true) in
    on_chain_next c.args.self.now c.loop-at.at c.in-Some.commit.now c.args.hash.now c.known.ensures (sym c.in-Some.ensures) other ∙ c.loop-at.invariant

pub returns : goal.returns
returns c =
    let here = not-false (same_hash c.loop-at.at c.args.hash.now) (sym c.ne.ensures ∙ c.loop-at-test.false) in
    sym (on_chain_here c.args.self.now c.loop-at.at c.args.hash.now here) ∙ c.loop-at.invariant
