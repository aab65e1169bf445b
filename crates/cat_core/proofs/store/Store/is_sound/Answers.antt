use Rattle.std.proofs.Common.{refl}
use Rattle.cat_core.specs.Stored.{opened_held}
use Rattle.cat_core.proofs.Held.{form_seen}
use Rattle.cat_core.proofs.Lasting.{holding_seen}
use Rattle.cat_core.proofs.UnderWay.{marked}
use Rattle.cat_core.proofs.SweepsOn.{may_close}
use Rattle.cat_core.proofs.store.Store.is_sound.Goals as goal

pub returns-clause-sweep : goal.returns-clause-sweep
returns-clause-sweep g c =
    marked c.self.inside.ledger.draft c.self.inside.drafter c.self.inside.dropped c.self.inside.expired c.self.inside.closed _ _ _ _ c.self.inside.sweep c.self.inside.ledger _ _ _ c.self.view_is refl refl c.self.invariant.2

pub returns-clause-closes : goal.returns-clause-closes
returns-clause-closes g c =
    may_close c.self.inside.ledger (opened_held c.self.inside.ledger.base c.self.inside.start) _ c.self.inside.sweep c.self.inside.closed _ _ c.self.view_is refl refl c.self.invariant.1 c.self.invariant.2

pub returns-clause-holding : goal.returns-clause-holding
returns-clause-holding g c = holding_seen _ _ c.self.view_is c.self.invariant.3

-- the format is 1 or 2
pub returns-clause-formed : goal.returns-clause-formed
returns-clause-formed g c =
    let laws = g.met.K.Keeper g.world.𝓛 g.world.𝓜 g.world.𝓡 ((λ s x. x), (λ x. x), (λ x. x), λ x. x) in
    form_seen _ _ c.self.view_is (laws.formed c.self.inside.keeper)
