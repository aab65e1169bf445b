use Rattle.cat_core.proofs.Plain.{reads_fails}
use Rattle.cat_core.proofs.ledger.Ledger.read.Goals as goal

pub returns-in-Err : goal.returns-in-Err
returns-in-Err c = rw (c.refused.ensures, c.place-in-Err.ensures) (reads_fails c.args.self.now c.args.ask.now c.in-Err.failure (rw c.catalogue.ensures at c.in-Err.ensures))
