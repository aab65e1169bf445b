use Rattle.cat_core.proofs.Held.{sound_seen}
use Rattle.cat_core.proofs.Sound.{state_upholds}
use Rattle.cat_core.proofs.store.Store.history.Goals as goal

pub returns-clause-upheld : goal.returns-clause-upheld
returns-clause-upheld g c = state_upholds c.args.self.now.opened c.args.self.now.book c.args.self.now.left_open.drafts (sound_seen _ _ c.self.view_is c.self.invariant.1)
