use Rattle.std.proofs.Common.{◌∙◌, sym}
use Rattle.cat_graph.proofs.Alike.{commits_decide}
use Rattle.cat_graph.proofs.graph.is_same.Goals as goal

pub returns : goal.returns
returns c =
    let decides = commits_decide c.args.kept.now c.args.commit.now in
    (λ e. decides.0 (sym c.eq.ensures ∙ e), λ same. c.eq.ensures ∙ decides.1 same)
