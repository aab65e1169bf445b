use Rattle.cat_core.proofs.Led.{starts_by}
use Rattle.cat_core.proofs.opening.start_at.Goals as goal

pub returns-in-Ok-Some-start_on-clause-starts : goal.returns-in-Ok-Some-start_on-clause-starts
returns-in-Ok-Some-start_on-clause-starts c = starts_by c.args.limits c.args.payloads c.args.faults c.args.base.now c.in-Ok-Some.checkpoint c.in-Ok-Some-start_on.replay (rw (c.as_slice-2.ensures, c.in-Ok-Some.field-0-is) at c.in-Ok-Some.ensures) (rw c.in-Ok-Some-start_on.field-0-is at c.in-Ok-Some-start_on.ensures.starts)
