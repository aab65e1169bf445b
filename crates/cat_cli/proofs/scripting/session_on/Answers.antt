use Rattle.std.proofs.Common.{◌∙◌, sym}
use Rattle.std.specs.Option.{option_map}
use Rattle.cat_journal.specs.declared.journal.Journal.{Journal}
use Rattle.cat_journal.specs.Frames.{payload_of}
use Rattle.cat_journal.specs.Held.{first_payloads, held_count}
use Rattle.cat_journal.specs.Journals.{journal_disk}
use Rattle.cat_keeper.specs.KeeperLaws.{none_flies}
use Rattle.cat_cli.proofs.Counted.{spared, stands, unspoiled, unwritten}
use Rattle.cat_cli.proofs.Opened.{counted_by}
use Rattle.cat_cli.proofs.Ran.{ran}
use Rattle.cat_cli.proofs.Unspoiled.{keeps_format}
use Rattle.cat_cli.proofs.scripting.session_on.Goals as goal

pub returns-in-Ok-hold_session-clause-ran : goal.returns-in-Ok-hold_session-clause-ran
returns-in-Ok-hold_session-clause-ran g c =
    ran {K = Journal g.row.D.Denot g.D.Disk} g.D.Disk.told g.D.Disk.may_leave g.D.Disk.moment g.D.Disk.left_since (λ j. j.down) (λ j. option_map (λ _. payload_of j.frame.items) j.down)
    (λ j. option_map (first_payloads (held_count j.points)) (g.D.Disk.told j.disk)) g.B.Since.since g.B.Since.had g.B.Since.before c.args.disk c.disk_of.result c.in-Ok.store c.in-Ok-hold_session.store _ _ _ _ _ _ _ _ c.in-Ok-hold_session.end
    c.in-Ok.ensures.stored c.in-Ok-hold_session.ensures.ends c.requires.begun c.in-Ok.ensures.formed c.in-Ok.ensures.based (c.in-Ok.ensures.bases, c.in-Ok-hold_session.ensures.bases) c.in-Ok-hold_session.ensures.based c.disk_of.ensures.kept
    (keeps_format g.D.Disk.told g.D.Disk.may_leave g.D.Disk.moment g.D.Disk.left_since g.T.Stood.since g.T.Stood.count g.T.Stood.past g.T.Stood.began g.T.Stood.shape c.args.disk c.requires.stood c.disk_of.result c.disk_of.ensures.format) _ _
    (λ count fallen. counted_by _ _ _ count (c.in-Ok.ensures.fresh.2 ∙ c.in-Ok.ensures.level ∙ c.requires.fresh) c.disk_of.ensures.faults (c.in-Ok-hold_session.ensures.rose count fallen))
    (λ up. c.disk_of.ensures.faults ∙ c.in-Ok-hold_session.ensures.level up ∙ c.in-Ok.ensures.fresh.2 ∙ c.in-Ok.ensures.level ∙ c.requires.fresh)

-- memory ran out before the session
pub returns-in-Err-hold_session-clause-stands : goal.returns-in-Err-hold_session-clause-stands
returns-in-Err-hold_session-clause-stands g c =
    let stored = rw (sym c.in-Err-hold_session.ensures.back) at c.in-Ok.ensures.stored in
    stands {K = Journal g.row.D.Denot g.D.Disk} g.D.Disk.told g.D.Disk.may_leave g.D.Disk.moment g.D.Disk.left_since (λ j. j.down) (λ j. option_map (λ _. payload_of j.frame.items) j.down)
    (λ j. option_map (first_payloads (held_count j.points)) (g.D.Disk.told j.disk)) g.B.Since.since g.B.Since.had g.B.Since.before c.args.disk c.disk_of-in-Err-hold_session.result c.in-Err-hold_session.store stored (none_flies _ _ stored.up) c.requires.begun c.disk_of-in-Err-hold_session.ensures.kept

pub returns-in-Err-hold_session-clause-spared : goal.returns-in-Err-hold_session-clause-spared
returns-in-Err-hold_session-clause-spared g c =
    let stored = rw (sym c.in-Err-hold_session.ensures.back) at c.in-Ok.ensures.stored in
    spared {K = Journal g.row.D.Denot g.D.Disk} g.D.Disk.told g.D.Disk.may_leave g.D.Disk.moment g.D.Disk.left_since (λ j. j.down) (λ j. option_map (λ _. payload_of j.frame.items) j.down)
    (λ j. option_map (first_payloads (held_count j.points)) (g.D.Disk.told j.disk)) g.B.Since.since g.B.Since.had g.B.Since.before c.args.disk c.disk_of-in-Err-hold_session.result c.in-Err-hold_session.store stored (none_flies _ _ stored.up) c.requires.begun c.disk_of-in-Err-hold_session.ensures.kept

pub returns-in-Err-hold_session-clause-unspoiled : goal.returns-in-Err-hold_session-clause-unspoiled
returns-in-Err-hold_session-clause-unspoiled g c other =
    let met = g.met.D.Disk g.world.𝓛 g.world.𝓜 g.world.𝓡 ((λ s x. x), (λ x. x), (λ x. x), λ x. x) in
    let stored = rw (sym c.in-Err-hold_session.ensures.back) at c.in-Ok.ensures.stored in
    unspoiled {K = Journal g.row.D.Denot g.D.Disk} g.D.Disk.told g.D.Disk.may_leave g.D.Disk.moment g.D.Disk.left_since met.only_now (λ d b told. met.reads_as_image d b told) journal_disk (λ j. j.down) (λ j. option_map (λ _. payload_of j.frame.items) j.down)
    (λ j. option_map (first_payloads (held_count j.points)) (g.D.Disk.told j.disk)) g.B.Since.since g.B.Since.had g.B.Since.before g.T.Stood.since g.T.Stood.count g.T.Stood.past g.T.Stood.began g.T.Stood.shape c.args.disk c.disk_of-in-Err-hold_session.result c.in-Err-hold_session.store stored (none_flies _ _ stored.up) c.requires.stood c.disk_of-in-Err-hold_session.ensures.kept c.disk_of-in-Err-hold_session.ensures.disk c.disk_of-in-Err-hold_session.ensures.still

pub returns-in-Err-hold_session-clause-unwritten : goal.returns-in-Err-hold_session-clause-unwritten
returns-in-Err-hold_session-clause-unwritten g c =
    let met = g.met.D.Disk g.world.𝓛 g.world.𝓜 g.world.𝓡 ((λ s x. x), (λ x. x), (λ x. x), λ x. x) in
    let stored = rw (sym c.in-Err-hold_session.ensures.back) at c.in-Ok.ensures.stored in
    unwritten {K = Journal g.row.D.Denot g.D.Disk} g.D.Disk.told g.D.Disk.may_leave g.D.Disk.moment g.D.Disk.left_since met.only_now (λ d b told. met.reads_as_image d b told) journal_disk (λ j. j.down) (λ j. option_map (λ _. payload_of j.frame.items) j.down)
    (λ j. option_map (first_payloads (held_count j.points)) (g.D.Disk.told j.disk)) g.B.Since.since g.B.Since.had g.B.Since.before g.T.Stood.since g.T.Stood.count g.T.Stood.past g.T.Stood.began g.T.Stood.shape c.args.disk c.disk_of-in-Err-hold_session.result c.in-Err-hold_session.store stored (none_flies _ _ stored.up) c.requires.stood c.disk_of-in-Err-hold_session.ensures.kept c.disk_of-in-Err-hold_session.ensures.disk c.disk_of-in-Err-hold_session.ensures.still
