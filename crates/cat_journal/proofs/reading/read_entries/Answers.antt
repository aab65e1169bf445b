use Rattle.std.proofs.Common.{arith, rules}
use Rattle.cat_journal.proofs.Entries.{all_found, not_read_found, read_found, too_many_found}
use Rattle.cat_journal.proofs.ReadOnly.{as_before, reads_then}
use Rattle.cat_journal.proofs.reading.read_entries.Goals as goal

pub returns-then-i-ge-MAX_ENTRIES-clause-found : goal.returns-then-i-ge-MAX_ENTRIES-clause-found
returns-then-i-ge-MAX_ENTRIES-clause-found g c =
    too_many_found c.args.gates.now c.loop-i.i (omega arith) c.loop-i.invariant.few (g.D.Disk.told c.args.disk.now) c.loop-i.invariant.found (omega arith)

pub returns-in-Ok-false-clause-found : goal.returns-in-Ok-false-clause-found
returns-in-Ok-false-clause-found g c =
    not_read_found c.args.gates.now c.loop-i.i (omega arith) c.loop-i.invariant.few (g.D.Disk.told c.args.disk.now) c.loop-i.invariant.found (omega arith) c.in-Ok-false.field-0
    (as_before (g.D.Disk.told c.args.disk.now) (g.D.Disk.told c.loop-i.disk) _ c.loop-i.invariant.reads.same c.in-Ok-false.ensures.found) (search rules)

pub loop-i-preserved : goal.loop-i-preserved
loop-i-preserved g c = record {
  found =
      read_found c.args.gates.now c.loop-i.i (omega arith) c.loop-i.invariant.few (g.D.Disk.told c.args.disk.now) c.loop-i.invariant.found (omega arith) c.in-Ok-true.field-0
      (as_before (g.D.Disk.told c.args.disk.now) (g.D.Disk.told c.loop-i.disk) _ c.loop-i.invariant.reads.same c.in-Ok-true.ensures.found) (search rules);
  few = omega arith;
  reads = reads_then g.D.Disk.told g.D.Disk.may_leave g.D.Disk.moment g.D.Disk.left_since c.args.disk.now c.loop-i.disk c.is_entry.new.disk c.loop-i.invariant.reads c.is_entry.ensures.reads;
  faults = search rules;
}

pub returns-clause-found : goal.returns-clause-found
returns-clause-found g c = all_found c.args.gates.now c.loop-i.i (g.D.Disk.told c.args.disk.now) (omega arith) c.loop-i.invariant.found
