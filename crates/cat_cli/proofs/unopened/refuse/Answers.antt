use Rattle.cat_cli.proofs.Opened.{refused_known}
use Rattle.cat_cli.proofs.ServedRuns.{ends_at_fault}
use Rattle.cat_cli.proofs.unopened.refuse.Goals as goal

pub returns-in-Fault-clause-told : goal.returns-in-Fault-clause-told
returns-in-Fault-clause-told g c = rw c.in-Fault.is (refused_known _ _ _ _ _ c.tell_disk_fault.ensures.told)

pub returns-in-Fault-clause-reason : goal.returns-in-Fault-clause-reason
returns-in-Fault-clause-reason g c = ends_at_fault _ _ c.in-Fault.is c.tell_disk_fault.ensures.ends
