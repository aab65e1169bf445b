use Rattle.cat_journal.specs.Frames.{payload_of}
use Rattle.cat_journal.specs.Held.{held_count}
use Rattle.cat_journal.proofs.Appended.{images_torn, told_at_rest, told_headed, told_torn}
use Rattle.cat_journal.proofs.journal.Journal.into_disk.Goals as goal

pub returns-clause-headed : goal.returns-clause-headed
returns-clause-headed g c = let j = c.args.self in rw c.into_inner.ensures (told_headed (g.D.Disk.told j.disk) j.points j.held)

pub returns-clause-format : goal.returns-clause-format
returns-clause-format g c = let j = c.args.self in rw c.into_inner.ensures j.formed

pub returns-clause-payloads : goal.returns-clause-payloads
returns-clause-payloads g c up = let j = c.args.self in rw c.into_inner.ensures (told_at_rest (g.D.Disk.told j.disk) (held_count j.points) j.points.end (g.D.Disk.may_leave j.disk) (j.safe up))

pub returns-clause-in_flight : goal.returns-clause-in_flight
returns-clause-in_flight g c p flies =
    let j = c.args.self in
    rw c.into_inner.ensures (told_torn (g.D.Disk.told j.disk) j.points (payload_of j.frame.items) (g.D.Disk.may_leave j.disk) j.down j.held j.torn p flies)

pub returns-clause-torn : goal.returns-clause-torn
returns-clause-torn g c p flies =
    let j = c.args.self in
    rw c.into_inner.ensures (images_torn (g.D.Disk.told j.disk) j.points (payload_of j.frame.items) (g.D.Disk.may_leave j.disk) j.down j.held j.torn p flies)
