use Rattle.std.proofs.Common.{◌∙◌, ◌++◌, ◌<◌, ◌≤◌, length, sym, ap, arith}
use Rattle.std.proofs.lemmas.Bool.{not-true, not-false}
use Rattle.cat_model.specs.Same.{same_hash}
use Rattle.cat_graph.specs.Touched.{keys_named}
use Rattle.cat_graph.proofs.TouchedKeys.{one_more, too_many, at_end, arrived, covers_between}
use Rattle.cat_graph.proofs.Walks.{nothing_there, shorter}
use Rattle.cat_graph.proofs.graph.Graph.touched.Goals as goal

pub returns-in_default-clause-exact : goal.returns-in_default-clause-exact
returns-in_default-clause-exact c =
    let other = not-true (same_hash c.loop-at.at c.args.to.now) (sym c.ne.ensures ∙ c.loop-at-test.true) in
    at_end c.args.self.now _ _ _ _ _ c.loop-at.invariant (nothing_there c.get.result _ c.get.ensures c.in_default.is) other

pub returns-then-len-left-clause-exact : goal.returns-then-len-left-clause-exact
returns-then-len-left-clause-exact c =
    let other = not-true (same_hash c.loop-at.at c.args.to.now) (sym c.ne.ensures ∙ c.loop-at-test.true) in
    let many : c.loop-at.left ≤ length (c.in-Some.commit.now).ops = omega (arith, c.len.ensures) in
    too_many c.args.self.now _ _ _ _ _ c.loop-at.invariant c.in-Some.commit.now c.known.ensures (sym c.in-Some.ensures) other many

pub loop-at-smaller : goal.loop-at-smaller
loop-at-smaller c = shorter c.args.self.now c.loop-at.at c.in-Some.commit.now c.known.ensures (sym c.in-Some.ensures)

pub loop-at-preserved : goal.loop-at-preserved
loop-at-preserved c =
    let other = not-true (same_hash c.loop-at.at c.args.to.now) (sym c.ne.ensures ∙ c.loop-at-test.true) in
    let few : length (c.in-Some.commit.now).ops < c.loop-at.left = omega (arith, c.len.ensures) in
    let added = c.in_ok-add_keys.ensures ∙ ap (λ l. c.loop-at.keys ++ keys_named l) c.as_slice.ensures in
    rw c.len-in-loop-at.ensures (one_more c.args.self.now _ _ _ _ _ c.loop-at.invariant c.in-Some.commit.now _ c.known.ensures (sym c.in-Some.ensures) other few added)

pub returns-clause-exact : goal.returns-clause-exact
returns-clause-exact c =
    let here = not-false (same_hash c.loop-at.at c.args.to.now) (sym c.ne.ensures ∙ c.loop-at-test.false) in
    arrived c.args.self.now _ _ _ _ _ c.loop-at.invariant here

pub returns-clause-covers : goal.returns-clause-covers
returns-clause-covers c = covers_between c.args.self.now c.args.from.now c.args.to.now c.args.most c.known.ensures c.loop-at.keys (returns-clause-exact c)
