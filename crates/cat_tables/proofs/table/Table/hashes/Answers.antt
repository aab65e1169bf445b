use Rattle.std.proofs.Common.{◌∙◌, List, None, is_some, map, ap}
use Rattle.cat_codes.specs.Code.{keys_ascend}
use Rattle.cat_model.specs.Base.{is_among}
use Rattle.cat_names.specs.declared.hash.Hash.{Hash}
use Rattle.cat_tables.specs.HashOrder.{hash_cmp}
use Rattle.cat_tables.specs.Tables.{value_of}
use Rattle.cat_tables.specs.declared.table.Placed.{Placed}
use Rattle.cat_tables.proofs.Removals.{hashes_ascend, all_among}
use Rattle.cat_tables.proofs.table.Table.hashes.Goals as goal

pub returns-clause-all : goal.returns-clause-all
returns-clause-all g c hash =
    ap (λ (l : List (Hash × Placed g.row.V.Denot)). is_among (map (λ x. x.0) l) hash) c.walk.ensures
    ∙ all_among c.self.inside.next c.self.inside.placed c.self.invariant hash
    ∙ ap (λ (l : List (Hash × g.row.V.Denot)). is_some (value_of l hash)) c.self.view_is

pub returns-clause-order : goal.returns-clause-order
returns-clause-order g c =
    ap (λ (l : List (Hash × Placed g.row.V.Denot)). keys_ascend hash_cmp None (map (λ x. x.0) l)) c.walk.ensures
    ∙ hashes_ascend None c.self.inside.placed c.known.ensures
