use Rattle.cat_journal.proofs.Making.{is_empty, makes, opens, quiet, quiet_on}
use Rattle.cat_journal.proofs.ReadOnly.{as_after, reads_then, told_then}
use Rattle.cat_journal.proofs.Header.{opened_by}
use Rattle.cat_journal.proofs.opening.load.Goals as goal

pub returns-in-Ok-read_frames-clause-found : goal.returns-in-Ok-read_frames-clause-found
returns-in-Ok-read_frames-clause-found g c =
    let t = g.D.Disk.told c.args.disk.now in
    let t1 = g.D.Disk.told c.sync.new.self in
    let t2 = g.D.Disk.told c.len.new.self in
    let t3 = g.D.Disk.told c.check_header.new.disk in
    let t4 = g.D.Disk.told c.read_frames.new.disk in
    let so_far = told_then t t2 t3 (told_then t t1 t2 c.sync.ensures.same c.len.ensures.same) c.check_header.ensures.reads.same in
    opened_by c.in-Ok-check_header.newer t t3 t4 c.in-Ok-read_frames.points so_far c.read_frames.ensures.reads.same (as_after t2 t3 _ c.check_header.ensures.reads.same c.in-Ok-check_header.ensures.found) c.in-Ok-read_frames.ensures.found

pub returns-then-len-eq0-clause-images : goal.returns-then-len-eq0-clause-images
returns-then-len-eq0-clause-images g c =
    let d = c.args.disk.now in
    let synced = c.sync.new.self in
    let t1 = g.D.Disk.told synced in
    let t2 = g.D.Disk.told c.len.new.self in
    let one = quiet g.D.Disk.may_leave g.D.Disk.moment g.D.Disk.left_since d synced (λ i left. g.met.D.Disk.only_now d i left) c.sync.ensures.time c.sync.ensures.crash in
    let two = quiet g.D.Disk.may_leave g.D.Disk.moment g.D.Disk.left_since synced c.len.new.self (λ i left. g.met.D.Disk.only_now synced i left) c.len.ensures.time c.len.ensures.crash in
    makes g.D.Disk.may_leave g.D.Disk.moment g.D.Disk.left_since (g.D.Disk.told d) t2 d c.len.new.self c.create.new.disk
    (quiet_on g.D.Disk.may_leave g.D.Disk.moment g.D.Disk.left_since d synced c.len.new.self one c.sync.ensures.crash two)
    (told_then (g.D.Disk.told d) t1 t2 c.sync.ensures.same c.len.ensures.same) (is_empty t1 t2 c.in-Ok.len c.in-Ok.ensures.value c.if-len-eq0.true c.len.ensures.same) c.create.ensures.images

pub returns-in-Ok-read_frames-clause-images : goal.returns-in-Ok-read_frames-clause-images
returns-in-Ok-read_frames-clause-images g c =
    let d = c.args.disk.now in
    let synced = c.sync.new.self in
    let one = quiet g.D.Disk.may_leave g.D.Disk.moment g.D.Disk.left_since d synced (λ i left. g.met.D.Disk.only_now d i left) c.sync.ensures.time c.sync.ensures.crash in
    let two = quiet g.D.Disk.may_leave g.D.Disk.moment g.D.Disk.left_since synced c.len.new.self (λ i left. g.met.D.Disk.only_now synced i left) c.len.ensures.time c.len.ensures.crash in
    let both = quiet_on g.D.Disk.may_leave g.D.Disk.moment g.D.Disk.left_since d synced c.len.new.self one c.sync.ensures.crash two in
    let reads = reads_then g.D.Disk.told g.D.Disk.may_leave g.D.Disk.moment g.D.Disk.left_since c.len.new.self c.check_header.new.disk c.read_frames.new.disk c.check_header.ensures.reads c.read_frames.ensures.reads in
    opens g.D.Disk.may_leave g.D.Disk.moment g.D.Disk.left_since (g.D.Disk.told d) d c.read_frames.new.disk
    (quiet_on g.D.Disk.may_leave g.D.Disk.moment g.D.Disk.left_since d c.len.new.self c.read_frames.new.disk both (λ i p. c.sync.ensures.crash i (c.len.ensures.crash i p)) reads.time)

pub returns-in-Err-read_frames-clause-images : goal.returns-in-Err-read_frames-clause-images
returns-in-Err-read_frames-clause-images g c =
    let d = c.args.disk.now in
    let synced = c.sync.new.self in
    let one = quiet g.D.Disk.may_leave g.D.Disk.moment g.D.Disk.left_since d synced (λ i left. g.met.D.Disk.only_now d i left) c.sync.ensures.time c.sync.ensures.crash in
    let two = quiet g.D.Disk.may_leave g.D.Disk.moment g.D.Disk.left_since synced c.len.new.self (λ i left. g.met.D.Disk.only_now synced i left) c.len.ensures.time c.len.ensures.crash in
    let both = quiet_on g.D.Disk.may_leave g.D.Disk.moment g.D.Disk.left_since d synced c.len.new.self one c.sync.ensures.crash two in
    let reads = reads_then g.D.Disk.told g.D.Disk.may_leave g.D.Disk.moment g.D.Disk.left_since c.len.new.self c.check_header.new.disk c.read_frames.new.disk c.check_header.ensures.reads c.read_frames.ensures.reads in
    opens g.D.Disk.may_leave g.D.Disk.moment g.D.Disk.left_since (g.D.Disk.told d) d c.read_frames.new.disk
    (quiet_on g.D.Disk.may_leave g.D.Disk.moment g.D.Disk.left_since d c.len.new.self c.read_frames.new.disk both (λ i p. c.sync.ensures.crash i (c.len.ensures.crash i p)) reads.time)
