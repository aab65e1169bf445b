use Rattle.std.proofs.Common.{◌∙◌, sym}
use Rattle.std.specs.Option.{option_map}
use Rattle.cat_journal.specs.declared.journal.Journal.{Journal}
use Rattle.cat_journal.specs.Frames.{payload_of}
use Rattle.cat_journal.specs.Held.{first_payloads, held_count}
use Rattle.cat_journal.specs.Journals.{journal_disk}
use Rattle.cat_keeper.specs.KeeperLaws.{none_flies}
use Rattle.cat_cli.proofs.Counted.{spared, stands, unspoiled, unwritten}
use Rattle.cat_cli.proofs.HostedStores.{comes_down}
use Rattle.cat_cli.proofs.Left.{counted_at, level_at}
use Rattle.cat_cli.proofs.Opened.{counted_by}
use Rattle.cat_cli.proofs.Unspoiled.{keeps_format}
use Rattle.cat_cli.proofs.serving.serve_on.Goals as goal

pub returns-in-Ok-hold_serving-clause-comes : goal.returns-in-Ok-hold_serving-clause-comes
returns-in-Ok-hold_serving-clause-comes g c =
    let began = c.in-Ok.ensures.fresh.2 ∙ c.in-Ok.ensures.level ∙ c.requires.fresh in
    let met = g.met.D.Disk g.world.𝓛 g.world.𝓜 g.world.𝓡 ((λ s x. x), (λ x. x), (λ x. x), λ x. x) in
    comes_down {K = Journal g.row.D.Denot g.D.Disk} _ _ _ _ _ _ g.D.Disk.told g.D.Disk.may_leave g.D.Disk.moment g.D.Disk.left_since (λ j. j.down) (λ j. option_map (λ _. payload_of j.frame.items) j.down)
    (λ j. option_map (first_payloads (held_count j.points)) (g.D.Disk.told j.disk)) g.B.Since.since g.B.Since.had g.B.Since.before c.args.disk c.disk_of.result c.in-Ok.store c.in-Ok-hold_serving.store c.in-Ok.ensures.stored c.in-Ok.ensures.fresh.1 began c.requires.begun
    c.in-Ok-hold_serving.ensures.fallen c.in-Ok-hold_serving.ensures.flies (c.in-Ok.ensures.bases, c.in-Ok-hold_serving.ensures.bases) c.disk_of.ensures.kept
    met.only_now (λ d b told. met.reads_as_image d b told) journal_disk g.T.Stood.since g.T.Stood.count g.T.Stood.past g.T.Stood.began g.T.Stood.shape c.requires.stood c.disk_of.ensures.disk c.disk_of.ensures.still (c.in-Ok.ensures.formed, c.in-Ok.ensures.based, c.in-Ok.ensures.drafted, c.in-Ok.ensures.unswept)
    (keeps_format g.D.Disk.told g.D.Disk.may_leave g.D.Disk.moment g.D.Disk.left_since g.T.Stood.since g.T.Stood.count g.T.Stood.past g.T.Stood.began g.T.Stood.shape c.args.disk c.requires.stood c.disk_of.result c.disk_of.ensures.format) _ _ _ c.in-Ok-hold_serving.end
    (λ x is. counted_by _ _ _ x.count began c.disk_of.ensures.faults (c.in-Ok-hold_serving.ensures.rose x is, counted_at c.in-Ok-hold_serving.store.mark.fault _ c.in-Ok.store.opened.faults x c.in-Ok-hold_serving.ensures.level is))
    (λ none. c.disk_of.ensures.faults ∙ level_at c.in-Ok-hold_serving.store.mark.fault _ c.in-Ok.store.opened.faults c.in-Ok-hold_serving.ensures.level none ∙ began) c.in-Ok-hold_serving.ensures.comes

-- memory ran out before the desk was made
pub returns-in-Err-hold_serving-clause-stands : goal.returns-in-Err-hold_serving-clause-stands
returns-in-Err-hold_serving-clause-stands g c =
    let stored = rw (sym c.in-Err-hold_serving.ensures.back) at c.in-Ok.ensures.stored in
    stands {K = Journal g.row.D.Denot g.D.Disk} g.D.Disk.told g.D.Disk.may_leave g.D.Disk.moment g.D.Disk.left_since (λ j. j.down) (λ j. option_map (λ _. payload_of j.frame.items) j.down)
    (λ j. option_map (first_payloads (held_count j.points)) (g.D.Disk.told j.disk)) g.B.Since.since g.B.Since.had g.B.Since.before c.args.disk c.disk_of-in-Err-hold_serving.result c.in-Err-hold_serving.store stored (none_flies _ _ stored.up) c.requires.begun c.disk_of-in-Err-hold_serving.ensures.kept

pub returns-in-Err-hold_serving-clause-spared : goal.returns-in-Err-hold_serving-clause-spared
returns-in-Err-hold_serving-clause-spared g c =
    let stored = rw (sym c.in-Err-hold_serving.ensures.back) at c.in-Ok.ensures.stored in
    spared {K = Journal g.row.D.Denot g.D.Disk} g.D.Disk.told g.D.Disk.may_leave g.D.Disk.moment g.D.Disk.left_since (λ j. j.down) (λ j. option_map (λ _. payload_of j.frame.items) j.down)
    (λ j. option_map (first_payloads (held_count j.points)) (g.D.Disk.told j.disk)) g.B.Since.since g.B.Since.had g.B.Since.before c.args.disk c.disk_of-in-Err-hold_serving.result c.in-Err-hold_serving.store stored (none_flies _ _ stored.up) c.requires.begun c.disk_of-in-Err-hold_serving.ensures.kept

pub returns-in-Err-hold_serving-clause-unspoiled : goal.returns-in-Err-hold_serving-clause-unspoiled
returns-in-Err-hold_serving-clause-unspoiled g c other =
    let met = g.met.D.Disk g.world.𝓛 g.world.𝓜 g.world.𝓡 ((λ s x. x), (λ x. x), (λ x. x), λ x. x) in
    let stored = rw (sym c.in-Err-hold_serving.ensures.back) at c.in-Ok.ensures.stored in
    unspoiled {K = Journal g.row.D.Denot g.D.Disk} g.D.Disk.told g.D.Disk.may_leave g.D.Disk.moment g.D.Disk.left_since met.only_now (λ d b told. met.reads_as_image d b told) journal_disk (λ j. j.down) (λ j. option_map (λ _. payload_of j.frame.items) j.down)
    (λ j. option_map (first_payloads (held_count j.points)) (g.D.Disk.told j.disk)) g.B.Since.since g.B.Since.had g.B.Since.before g.T.Stood.since g.T.Stood.count g.T.Stood.past g.T.Stood.began g.T.Stood.shape c.args.disk c.disk_of-in-Err-hold_serving.result c.in-Err-hold_serving.store stored (none_flies _ _ stored.up) c.requires.stood c.disk_of-in-Err-hold_serving.ensures.kept c.disk_of-in-Err-hold_serving.ensures.disk c.disk_of-in-Err-hold_serving.ensures.still

pub returns-in-Err-hold_serving-clause-unwritten : goal.returns-in-Err-hold_serving-clause-unwritten
returns-in-Err-hold_serving-clause-unwritten g c =
    let met = g.met.D.Disk g.world.𝓛 g.world.𝓜 g.world.𝓡 ((λ s x. x), (λ x. x), (λ x. x), λ x. x) in
    let stored = rw (sym c.in-Err-hold_serving.ensures.back) at c.in-Ok.ensures.stored in
    unwritten {K = Journal g.row.D.Denot g.D.Disk} g.D.Disk.told g.D.Disk.may_leave g.D.Disk.moment g.D.Disk.left_since met.only_now (λ d b told. met.reads_as_image d b told) journal_disk (λ j. j.down) (λ j. option_map (λ _. payload_of j.frame.items) j.down)
    (λ j. option_map (first_payloads (held_count j.points)) (g.D.Disk.told j.disk)) g.B.Since.since g.B.Since.had g.B.Since.before g.T.Stood.since g.T.Stood.count g.T.Stood.past g.T.Stood.began g.T.Stood.shape c.args.disk c.disk_of-in-Err-hold_serving.result c.in-Err-hold_serving.store stored (none_flies _ _ stored.up) c.requires.stood c.disk_of-in-Err-hold_serving.ensures.kept c.disk_of-in-Err-hold_serving.ensures.disk c.disk_of-in-Err-hold_serving.ensures.still
