use Rattle.cat_cli.proofs.Opened.{no_fault}
use Rattle.cat_cli.proofs.unopened.tell_unreadable.Goals as goal

pub returns-in-Err-clause-reason : goal.returns-in-Err-clause-reason
returns-in-Err-clause-reason g c = rw c.tell_no_memory.ensures.status (no_fault c.args.why c.requires)
