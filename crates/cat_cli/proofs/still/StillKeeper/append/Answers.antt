use Rattle.std.proofs.Common.{subst, sym}
use Rattle.cat_cli.proofs.Unadded.{appended}
use Rattle.cat_cli.proofs.still.StillKeeper.append.Goals as goal

pub invariant_of-self : goal.invariant_of-self
invariant_of-self g c =
    let laws = g.met.K.Keeper in
    let e = c.append.ensures in (
      appended g.K.Keeper.in_flight g.K.Keeper.moment g.K.Keeper.bytes_left g.K.Keeper.bytes_since g.B.Stood.since g.B.Stood.count g.B.Stood.past g.B.Stood.began laws.bytes_count_now
          (g.K.Keeper.down c.self.inside.keeper) (g.K.Keeper.down c.append.new.self) (g.K.Keeper.told c.self.inside.keeper) (g.K.Keeper.told c.append.new.self) c.self.inside.keeper c.append.new.self c.args.bytes.now _ _ c.append.result e.added e.not_added e.failed e.is_down e.stays_down e.no_memory_taken e.images e.same_images c.self.invariant.0,
      subst g.B.Stood.shape (sym e.format) c.self.invariant.1,
    )

pub returns-clause-is_down : goal.returns-clause-is_down
returns-clause-is_down g c = rw (← c.self.view_is) c.append.ensures.is_down
