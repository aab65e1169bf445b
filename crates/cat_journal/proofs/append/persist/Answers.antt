use Rattle.std.proofs.Common.{ℕ, List, length}
use Rattle.cat_io.specs.Crashes.{Torn}
use Rattle.cat_keeper.specs.Moments.{started, goes_on}
use Rattle.cat_journal.proofs.Torn.{nothing_torn}
use Rattle.cat_journal.proofs.append.persist.Goals as goal

pub returns-in_err-write_at-clause-any_moment : goal.returns-in_err-write_at-clause-any_moment
returns-in_err-write_at-clause-any_moment g c =
    let d = c.args.disk.now in
    let P : List ℕ → Type 0 = λ i. (x : List ℕ) × g.D.Disk.may_leave d x × Torn c.args.at (length c.args.bytes.now) x i in
    let at_start = started g.D.Disk.moment g.D.Disk.left_since d P (λ i left. (i, g.met.D.Disk.only_now d i left, nothing_torn c.args.at (length c.args.bytes.now) i)) in
    goes_on g.D.Disk.moment g.D.Disk.left_since d d c.write_at.new.self P _ at_start c.write_at.ensures.time c.write_at.ensures.crash

pub returns-clause-any_moment : goal.returns-clause-any_moment
returns-clause-any_moment g c =
    let d = c.args.disk.now in
    let P : List ℕ → Type 0 = λ i. (x : List ℕ) × g.D.Disk.may_leave d x × Torn c.args.at (length c.args.bytes.now) x i in
    let at_start = started g.D.Disk.moment g.D.Disk.left_since d P (λ i left. (i, g.met.D.Disk.only_now d i left, nothing_torn c.args.at (length c.args.bytes.now) i)) in
    let written = goes_on g.D.Disk.moment g.D.Disk.left_since d d c.write_at.new.self P _ at_start c.write_at.ensures.time c.write_at.ensures.crash in
    goes_on g.D.Disk.moment g.D.Disk.left_since d c.write_at.new.self c.sync.new.self P _ written c.sync.ensures.time (λ i now. c.write_at.ensures.crash i (c.sync.ensures.crash i now))
