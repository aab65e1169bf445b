use Rattle.std.proofs.Common.{◌≡◌, ◌≤◌, ◌-◌, map, drop}
use Rattle.std.specs.Prelude.{IfSome}
use Rattle.std.specs.List.{All}
use Rattle.cat_journal.specs.Frames.{max_entries, unread_from}
use Rattle.cat_journal.specs.Reading.{HasFrame, OnlyReads, payload_at, unread_at}
use Rattle.cat_journal.proofs.reading.read_entries.Given as goal

abbrev pub invariant-loop-i : goal.invariant-loop-i
invariant-loop-i g l = record {
  found : IfSome (g.D.Disk.told l.fn.disk) (λ bytes. All (HasFrame bytes) l.gates → unread_at l.gates bytes ≡ unread_from l.i (map (payload_at bytes) (drop l.i l.gates)) (max_entries - l.i));
  few : l.i ≤ max_entries;
  reads : OnlyReads g.D.Disk.told g.D.Disk.may_leave g.D.Disk.moment g.D.Disk.left_since l.fn.disk l.disk;
  faults : g.D.Disk.faults l.disk ≡ g.D.Disk.faults l.fn.disk;
}
