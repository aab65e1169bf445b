use Rattle.std.proofs.Common.{List, ◌++◌, ap, ◌∙◌}
use Rattle.cat_ordered.proofs.block.joined_pairs.Goals as goal

pub returns : goal.returns
returns g c =
    c.in_ok-copy_into-2.ensures
    ∙ ap (λ (l : List (g.row.K.Denot × g.row.V.Denot)). l ++ c.args.next.now) (c.in_ok-copy_into.ensures ∙ ap (λ (l : List (g.row.K.Denot × g.row.V.Denot)). l ++ c.args.first.now) c.in_ok-pairs.ensures.items)
