use Rattle.std.proofs.Common.{◌∙◌}
use Rattle.cat_core.specs.Stored.{opened_held}
use Rattle.cat_core.proofs.Held.{place_length, place_seen}
use Rattle.cat_core.proofs.store.StoreLogged.count.Goals as goal

pub returns : goal.returns
returns g c = c.place.ensures ∙ (place_length (opened_held c.self.inside.ledger.base c.self.inside.start) c.self.inside.ledger _ c.self.invariant.1 ∙ place_seen _ _ c.self.view_is)
