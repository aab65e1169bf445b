use Rattle.std.proofs.Common.{rules, sym}
use Rattle.cat_core.specs.Stored.{opened_held}
use Rattle.cat_core.proofs.Behind.{behind_over}
use Rattle.cat_core.proofs.Held.{none_held}
use Rattle.cat_core.proofs.Lasting.{holding_over}
use Rattle.cat_core.proofs.UnderWay.{swept_none}
use Rattle.cat_core.proofs.store.Store.over.Goals as goal

pub invariant_of-result : goal.invariant_of-result
invariant_of-result g c = (
  record { payloads = c.requires.payloads; number = c.requires.number; fallen = c.requires.up; level = sym c.requires.began; rose = tt; flies = tt },
  none_held (opened_held c.args.ledger.base c.args.start) c.args.ledger _ (search rules) c.requires.sound,
  swept_none c.args.ledger _ (search rules),
  holding_over c.args.ledger _ (search rules),
  behind_over g.K.Keeper (opened_held c.args.ledger.base c.args.start) c.args.keeper _ (search rules),
)
