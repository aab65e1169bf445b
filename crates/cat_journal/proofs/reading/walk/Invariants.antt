use Rattle.std.proofs.Common.{◌≡◌, ◌<◌, ◌≤◌, ◌-◌}
use Rattle.std.specs.Prelude.{IfSome}
use Rattle.cat_journal.specs.Held.{held_count}
use Rattle.cat_journal.specs.Reading.{OnlyReads, WalkedTo}
use Rattle.cat_journal.proofs.reading.walk.Given as goal

abbrev pub invariant-frames : goal.invariant-frames
invariant-frames g l = record {
  walked : IfSome (g.D.Disk.told l.fn.disk) (WalkedTo l.newer l.points);
  reads : OnlyReads g.D.Disk.told g.D.Disk.may_leave g.D.Disk.moment g.D.Disk.left_since l.fn.disk l.disk;
  inside : l.points.end < l.len;
  room : held_count l.points ≤ l.points.end;
  faults : g.D.Disk.faults l.disk ≡ g.D.Disk.faults l.fn.disk;
}

abbrev pub decreases-frames : goal.decreases-frames
decreases-frames g l = l.len - l.points.end
