use Rattle.cat_journal.proofs.Migrated.{unopened_stands, unwritten_by}
use Rattle.cat_journal.proofs.migration.migrate.Goals as goal

pub returns-in-Err-clause-stands : goal.returns-in-Err-clause-stands
returns-in-Err-clause-stands g c =
    let old = c.args.disk in
    let new = c.in-Err.refused.0 in
    unopened_stands (g.D.Disk.told old) (g.D.Disk.told new) _ c.in-Err.ensures.fault
    (unwritten_by g.D.Disk.told g.D.Disk.may_leave g.D.Disk.moment g.D.Disk.left_since old new (g.D.Disk.told old) c.in-Err.ensures.unwritten)
