use Rattle.std.proofs.Common.{◌∙◌, length, ap, sym}
use Rattle.cat_tables.proofs.Arriving.{all_arrive}
use Rattle.cat_tables.proofs.table.Table.len.Goals as goal

pub returns : goal.returns
returns g c = c.len.ensures ∙ sym (all_arrive c.self.inside.next c.self.inside.placed c.self.invariant.below) ∙ ap length c.self.view_is
