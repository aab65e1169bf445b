use Rattle.std.proofs.Common.{◌≡◌, ◌∙◌, ◌+◌, ◌<◌, max, sym, ap, arith}
use Rattle.cat_graph.specs.Linked.{next_generation}
use Rattle.cat_graph.proofs.Walks.{none_before, one_before}
use Rattle.cat_graph.proofs.graph.Graph.has_next_generation.Goals as goal

pub returns-in-None : goal.returns-in-None
returns-in-None c =
    let low : c.args.commit.now.generation < 1 = grind (arith, c.in-None.ensures) in
    sym (none_before c.args.commit.now.generation (next_generation c.args.self.now c.args.commit.now) low (omega arith))

pub returns-in-Some : goal.returns-in-Some
returns-in-Some c =
    let greatest = c.max.ensures ∙ (λ i. max (c.generation-parent.ensures i) (c.merge_generation-merge_parent.ensures i)) in
    let less : c.in-Some.before + 1 ≡ c.args.commit.now.generation = omega (arith, c.in-Some.ensures) in
    one_before c.args.commit.now.generation c.in-Some.before c.max.result (next_generation c.args.self.now c.args.commit.now) less (ap (λ n. n + 1) greatest)
