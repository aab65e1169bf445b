use Rattle.std.proofs.Common.{refl}
use Rattle.cat_core.proofs.Making.{faults_seen, flown_seen, rose_seen}
use Rattle.cat_core.proofs.OpensAgain.{again_flown, again_seen}
use Rattle.cat_core.proofs.store.Store.log_is_kept.Goals as goal

pub returns-clause-level : goal.returns-clause-level
returns-clause-level g c =
    let laws = g.met.K.Keeper g.world.𝓛 g.world.𝓜 g.world.𝓡 ((λ s x. x), (λ x. x), (λ x. x), λ x. x) in
    faults_seen g.K.Keeper.down g.K.Keeper.in_flight laws.flies laws.waits g.K.Keeper.faults c.self.inside.fallen _ _ c.self.view_is refl c.self.invariant.0.fallen c.self.invariant.0.level

pub returns-clause-rose : goal.returns-clause-rose
returns-clause-rose g c = rose_seen g.K.Keeper.in_flight c.self.inside.fallen _ _ c.self.view_is refl c.self.invariant.0.rose

pub returns-clause-flown : goal.returns-clause-flown
returns-clause-flown g c = flown_seen g.K.Keeper.told g.K.Keeper.in_flight c.self.inside.fallen _ _ c.self.view_is refl c.self.invariant.0.flies c.self.invariant.0.payloads

pub returns-clause-again : goal.returns-clause-again
returns-clause-again g c = again_seen g.K.Keeper.told _ _ c.self.view_is c.self.invariant.1.legal c.self.invariant.0.payloads

pub returns-clause-again_flown : goal.returns-clause-again_flown
returns-clause-again_flown g c = λ x is. again_flown g.K.Keeper.told _ _ c.self.view_is c.self.invariant.1.legal x.payload (flown_seen g.K.Keeper.told g.K.Keeper.in_flight c.self.inside.fallen _ _ c.self.view_is refl c.self.invariant.0.flies c.self.invariant.0.payloads x is)
