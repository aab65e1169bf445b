use Rattle.cat_keeper.proofs.Watching.{stays}
use Rattle.cat_keeper.proofs.watched.WatchedKeeper.base.Goals as goal

pub invariant_of-self : goal.invariant_of-self
invariant_of-self g c =
    let laws = g.met.K.Keeper in
    stays g.K.Keeper.in_flight g.K.Keeper.moment g.K.Keeper.stands_for g.K.Keeper.bytes_left g.K.Keeper.bytes_since g.B.Since.since g.B.Since.had g.B.Since.before laws.bytes_count_now
    (g.K.Keeper.told c.self.inside.keeper) (g.K.Keeper.told c.base.new.self) c.self.inside.keeper c.base.new.self c.base.ensures.told c.base.ensures.in_flight c.base.ensures.images c.self.invariant
