use Rattle.std.proofs.Common.{◌∙◌, List, ap, sym}
use Rattle.std.specs.Option.{option_map}
use Rattle.cat_names.specs.declared.hash.Hash.{Hash}
use Rattle.cat_tables.specs.Tables.{value_of}
use Rattle.cat_tables.specs.declared.table.Placed.{Placed}
use Rattle.cat_tables.proofs.Arriving.{found_of}
use Rattle.cat_tables.proofs.table.Table.get.Goals as goal

pub returns-in-None : goal.returns-in-None
returns-in-None g c =
    ap (option_map (λ (p : Placed g.row.V.Denot). p.value)) c.in-None.ensures
    ∙ sym (found_of c.self.inside.next c.self.inside.placed c.args.hash.now c.self.invariant.below c.self.invariant.distinct)
    ∙ ap (λ (l : List (Hash × g.row.V.Denot)). value_of l c.args.hash.now) c.self.view_is

pub returns-in-Some : goal.returns-in-Some
returns-in-Some g c =
    ap (option_map (λ (p : Placed g.row.V.Denot). p.value)) c.in-Some.ensures
    ∙ sym (found_of c.self.inside.next c.self.inside.placed c.args.hash.now c.self.invariant.below c.self.invariant.distinct)
    ∙ ap (λ (l : List (Hash × g.row.V.Denot)). value_of l c.args.hash.now) c.self.view_is
