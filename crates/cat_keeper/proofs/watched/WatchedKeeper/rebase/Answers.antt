use Rattle.cat_keeper.proofs.Watching.{appended}
use Rattle.cat_keeper.proofs.watched.WatchedKeeper.rebase.Goals as goal

pub invariant_of-self : goal.invariant_of-self
invariant_of-self g c =
    let laws = g.met.K.Keeper in
    let e = c.rebase.ensures in
    appended g.K.Keeper.in_flight g.K.Keeper.moment g.K.Keeper.stands_for g.K.Keeper.bytes_left g.K.Keeper.bytes_since g.B.Since.since g.B.Since.had g.B.Since.before laws.bytes_count_now g.K.Keeper.down laws.waits
    (g.K.Keeper.told c.self.inside.keeper) (g.K.Keeper.told c.rebase.new.self) c.self.inside.keeper c.rebase.new.self c.args.bytes.now _ c.rebase.result e.added e.up e.not_added e.failed e.is_down e.stays_down e.no_memory_taken e.images e.same_images c.self.invariant

pub returns-clause-is_down : goal.returns-clause-is_down
returns-clause-is_down g c = rw (← c.self.view_is) c.rebase.ensures.is_down
