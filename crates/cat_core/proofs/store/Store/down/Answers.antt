use Rattle.cat_core.proofs.Held.{fault_seen}
use Rattle.cat_core.proofs.Making.{down_at_fallen}
use Rattle.cat_core.proofs.store.Store.down.Goals as goal

pub returns-in-Some-clause-mark : goal.returns-in-Some-clause-mark
returns-in-Some-clause-mark g c =
    let laws = g.met.K.Keeper g.world.𝓛 g.world.𝓜 g.world.𝓡 ((λ s x. x), (λ x. x), (λ x. x), λ x. x) in
    down_at_fallen g.K.Keeper.down g.K.Keeper.in_flight laws.flies laws.waits c.self.inside.keeper c.in-Some.fallen c.self.inside.fallen c.args.self.now.mark.fault c.in-Some.is c.self.invariant.0.fallen (fault_seen _ _ c.self.view_is)
