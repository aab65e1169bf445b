use Rattle.std.proofs.Common.{sym, ◌∙◌}
use Rattle.cat_graph.proofs.Walks.{next_decides}
use Rattle.cat_graph.proofs.graph.Graph.is_next.Goals as goal

pub returns : goal.returns
returns c =
    let both = next_decides c.args.self.now c.args.hash.now c.args.commit.now in
    (λ e. both.0 (sym c.passes.ensures ∙ e), λ next. c.passes.ensures ∙ both.1 next)
