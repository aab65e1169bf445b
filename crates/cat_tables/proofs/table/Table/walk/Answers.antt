use Rattle.std.proofs.Common.{List, map, ap, ◌∙◌}
use Rattle.cat_names.specs.declared.hash.Hash.{Hash}
use Rattle.cat_tables.specs.Sorted.{sorted}
use Rattle.cat_tables.specs.declared.table.Placed.{Placed}
use Rattle.cat_tables.proofs.Sorting.{walk_is}
use Rattle.cat_tables.proofs.table.Table.walk.Goals as goal

pub returns : goal.returns
returns g c =
    ap (λ (l : List (Hash × Placed g.row.V.Denot)). map (λ x. (x.0, x.1.value)) l) c.walk.ensures
    ∙ walk_is c.self.inside.next c.self.inside.placed c.self.invariant c.known.ensures
    ∙ ap (λ (l : List (Hash × g.row.V.Denot)). sorted l) c.self.view_is
