use Rattle.std.proofs.Common.{refl}
use Rattle.cat_core.proofs.SweepsOn.{knows_names}
use Rattle.cat_core.proofs.store.Store.sweep_is_told.Goals as goal

pub returns-clause-known : goal.returns-clause-known
returns-clause-known g c =
    knows_names c.self.inside.ledger _ c.self.inside.sweep c.self.inside.closed _ _ c.self.view_is refl refl c.self.invariant.2
