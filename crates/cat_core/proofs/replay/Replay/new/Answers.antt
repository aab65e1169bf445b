use Rattle.cat_core.proofs.Swept.{followed_first}
use Rattle.cat_core.proofs.replay.Replay.new.Goals as goal

pub returns-clause-followed : goal.returns-clause-followed
returns-clause-followed c = rw (c.new-2.ensures.empty, c.new-3.ensures.items) (followed_first c.args.ledger c.requires.none c.requires.here)
