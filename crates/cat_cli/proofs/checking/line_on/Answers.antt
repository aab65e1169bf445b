use Rattle.std.specs.Option.{option_map}
use Rattle.cat_journal.specs.declared.journal.Journal.{Journal}
use Rattle.cat_journal.specs.Frames.{payload_of}
use Rattle.cat_journal.specs.Held.{first_payloads, held_count}
use Rattle.cat_journal.specs.Journals.{journal_disk}
use Rattle.cat_keeper.specs.KeeperLaws.{none_flies}
use Rattle.cat_cli.proofs.Counted.{opens, spared, stands, unspoiled, unwritten}
use Rattle.cat_cli.proofs.checking.line_on.Goals as goal

pub returns-in-Ok-line-clause-line : goal.returns-in-Ok-line-clause-line
returns-in-Ok-line-clause-line g c = (
  c.in-Ok.store.book,
  c.in-Ok-line.ensures,
  record {
    opens = opens {K = Journal g.row.D.Denot g.D.Disk} g.D.Disk.told g.D.Disk.may_leave g.D.Disk.moment g.D.Disk.left_since (λ j. j.down) (λ j. option_map (λ _. payload_of j.frame.items) j.down)
        (λ j. option_map (first_payloads (held_count j.points)) (g.D.Disk.told j.disk)) g.B.Since.since g.B.Since.had g.B.Since.before c.args.disk c.disk_of-disk.result c.in-Ok.store c.in-Ok.ensures.stored (none_flies _ _ c.in-Ok.ensures.stored.up) c.requires.begun c.disk_of-disk.ensures.kept;
    same =
        unspoiled {K = Journal g.row.D.Denot g.D.Disk} g.D.Disk.told g.D.Disk.may_leave g.D.Disk.moment g.D.Disk.left_since (g.met.D.Disk g.world.𝓛 g.world.𝓜 g.world.𝓡 ((λ s x. x), (λ x. x), (λ x. x), λ x. x)).only_now (λ d b told. (g.met.D.Disk g.world.𝓛 g.world.𝓜 g.world.𝓡 ((λ s x. x), (λ x. x), (λ x. x), λ x. x)).reads_as_image d b told) journal_disk (λ j. j.down) (λ j. option_map (λ _. payload_of j.frame.items) j.down)
        (λ j. option_map (first_payloads (held_count j.points)) (g.D.Disk.told j.disk)) g.B.Since.since g.B.Since.had g.B.Since.before g.T.Stood.since g.T.Stood.count g.T.Stood.past g.T.Stood.began g.T.Stood.shape c.args.disk c.disk_of-disk.result c.in-Ok.store c.in-Ok.ensures.stored (none_flies _ _ c.in-Ok.ensures.stored.up) c.requires.stood c.disk_of-disk.ensures.kept c.disk_of-disk.ensures.disk c.disk_of-disk.ensures.still;
  },
)

pub returns-in-Err-line-clause-stands : goal.returns-in-Err-line-clause-stands
returns-in-Err-line-clause-stands g c =
    stands {K = Journal g.row.D.Denot g.D.Disk} g.D.Disk.told g.D.Disk.may_leave g.D.Disk.moment g.D.Disk.left_since (λ j. j.down) (λ j. option_map (λ _. payload_of j.frame.items) j.down)
    (λ j. option_map (first_payloads (held_count j.points)) (g.D.Disk.told j.disk)) g.B.Since.since g.B.Since.had g.B.Since.before c.args.disk c.disk_of-disk.result c.in-Ok.store c.in-Ok.ensures.stored (none_flies _ _ c.in-Ok.ensures.stored.up) c.requires.begun c.disk_of-disk.ensures.kept

pub returns-in-Err-line-clause-spared : goal.returns-in-Err-line-clause-spared
returns-in-Err-line-clause-spared g c =
    spared {K = Journal g.row.D.Denot g.D.Disk} g.D.Disk.told g.D.Disk.may_leave g.D.Disk.moment g.D.Disk.left_since (λ j. j.down) (λ j. option_map (λ _. payload_of j.frame.items) j.down)
    (λ j. option_map (first_payloads (held_count j.points)) (g.D.Disk.told j.disk)) g.B.Since.since g.B.Since.had g.B.Since.before c.args.disk c.disk_of-disk.result c.in-Ok.store c.in-Ok.ensures.stored (none_flies _ _ c.in-Ok.ensures.stored.up) c.requires.begun c.disk_of-disk.ensures.kept

pub returns-in-Err-line-clause-unspoiled : goal.returns-in-Err-line-clause-unspoiled
returns-in-Err-line-clause-unspoiled g c other =
    let met = g.met.D.Disk g.world.𝓛 g.world.𝓜 g.world.𝓡 ((λ s x. x), (λ x. x), (λ x. x), λ x. x) in
    unspoiled {K = Journal g.row.D.Denot g.D.Disk} g.D.Disk.told g.D.Disk.may_leave g.D.Disk.moment g.D.Disk.left_since met.only_now (λ d b told. met.reads_as_image d b told) journal_disk (λ j. j.down) (λ j. option_map (λ _. payload_of j.frame.items) j.down)
    (λ j. option_map (first_payloads (held_count j.points)) (g.D.Disk.told j.disk)) g.B.Since.since g.B.Since.had g.B.Since.before g.T.Stood.since g.T.Stood.count g.T.Stood.past g.T.Stood.began g.T.Stood.shape c.args.disk c.disk_of-disk.result c.in-Ok.store c.in-Ok.ensures.stored (none_flies _ _ c.in-Ok.ensures.stored.up) c.requires.stood c.disk_of-disk.ensures.kept c.disk_of-disk.ensures.disk c.disk_of-disk.ensures.still

pub returns-in-Err-line-clause-unwritten : goal.returns-in-Err-line-clause-unwritten
returns-in-Err-line-clause-unwritten g c =
    let met = g.met.D.Disk g.world.𝓛 g.world.𝓜 g.world.𝓡 ((λ s x. x), (λ x. x), (λ x. x), λ x. x) in
    unwritten {K = Journal g.row.D.Denot g.D.Disk} g.D.Disk.told g.D.Disk.may_leave g.D.Disk.moment g.D.Disk.left_since met.only_now (λ d b told. met.reads_as_image d b told) journal_disk (λ j. j.down) (λ j. option_map (λ _. payload_of j.frame.items) j.down)
    (λ j. option_map (first_payloads (held_count j.points)) (g.D.Disk.told j.disk)) g.B.Since.since g.B.Since.had g.B.Since.before g.T.Stood.since g.T.Stood.count g.T.Stood.past g.T.Stood.began g.T.Stood.shape c.args.disk c.disk_of-disk.result c.in-Ok.store c.in-Ok.ensures.stored (none_flies _ _ c.in-Ok.ensures.stored.up) c.requires.stood c.disk_of-disk.ensures.kept c.disk_of-disk.ensures.disk c.disk_of-disk.ensures.still
