use Rattle.cat_core.proofs.SweepsOn.{next_is}
use Rattle.cat_core.proofs.store.Store.next_sweep.Goals as goal

pub returns-clause-next : goal.returns-clause-next
returns-clause-next g c =
    next_is c.args.self.now.mark c.args.self.now.left_open.sweep c.last_closed.result c.saturating_add.result c.requires c.is_sound.ensures.sweep c.last_closed.ensures c.saturating_add.ensures
