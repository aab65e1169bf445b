use Rattle.std.proofs.Common.{rules}
use Rattle.cat_core.specs.Drafts.{opening_in}
use Rattle.cat_core.specs.Stored.{opened_held}
use Rattle.cat_core.proofs.Behind.{behind_closed, follow_seen}
use Rattle.cat_core.proofs.Held.{frees, sound_closed, sound_seen}
use Rattle.cat_core.proofs.Lasting.{holding_closed}
use Rattle.cat_core.proofs.UnderWay.{swept_closed}
use Rattle.cat_core.proofs.store.Store.close.Goals as goal

pub invariant_of-self : goal.invariant_of-self
invariant_of-self g c = (
  c.self.invariant.0,
  sound_closed (opened_held c.self.inside.ledger.base c.self.inside.start) c.self.inside.ledger _ _ (opening_in c.args.draft) c.self.invariant.1 (search rules),
  swept_closed c.self.inside.ledger _ _ (opening_in c.args.draft) c.self.inside.sweep c.self.inside.closed c.self.invariant.2 (search rules),
  holding_closed c.self.inside.ledger _ _ (opening_in c.args.draft) _ c.self.invariant.3 (search rules),
  behind_closed g.K.Keeper (opened_held c.self.inside.ledger.base c.self.inside.start) c.self.inside.keeper _ c.self.inside.sweep c.self.invariant.4 (opening_in c.args.draft) _ (search rules),
)

pub returns-clause-free : goal.returns-clause-free
returns-clause-free g c =
    frees g.K.Keeper c.args.self.now _ c.args.draft (sound_seen _ _ c.self.view_is c.self.invariant.1) (follow_seen g.K.Keeper _ _ c.self.inside.sweep c.self.view_is c.self.invariant.4) c.requires (search rules)
