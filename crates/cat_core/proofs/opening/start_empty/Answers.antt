use Rattle.cat_core.proofs.Led.{starts_new}
use Rattle.cat_core.proofs.opening.start_empty.Goals as goal

pub returns : goal.returns
returns c = starts_new c.args.limits c.args.payloads c.args.faults c.in_ok-ledger.ledger c.empty.result c.new-2.result c.in_ok-ledger.ensures c.empty.ensures c.new-2.ensures.ledger c.new-2.ensures.start c.new-2.ensures.followed
