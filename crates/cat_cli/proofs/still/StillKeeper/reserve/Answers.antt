use Rattle.std.proofs.Common.{subst, sym}
use Rattle.cat_cli.proofs.Unadded.{equal_told, stays}
use Rattle.cat_cli.proofs.still.StillKeeper.reserve.Goals as goal

pub invariant_of-self : goal.invariant_of-self
invariant_of-self g c =
    let laws = g.met.K.Keeper in (
      stays g.K.Keeper.in_flight g.K.Keeper.moment g.K.Keeper.bytes_left g.K.Keeper.bytes_since g.B.Stood.since g.B.Stood.count g.B.Stood.past g.B.Stood.began laws.bytes_count_now
          (g.K.Keeper.told c.self.inside.keeper) (g.K.Keeper.told c.reserve.new.self) c.self.inside.keeper c.reserve.new.self (equal_told _ _ c.reserve.ensures.told) c.reserve.ensures.in_flight c.reserve.ensures.images c.self.invariant.0,
      subst g.B.Stood.shape (sym c.reserve.ensures.format) c.self.invariant.1,
    )
