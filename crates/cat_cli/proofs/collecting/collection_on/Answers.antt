use Rattle.std.proofs.Common.{ℕ, ◌∙◌, subst, sym}
use Rattle.std.specs.Option.{option_map}
use Rattle.cat_io.specs.Causes.{Rose}
use Rattle.cat_journal.specs.declared.journal.Journal.{Journal}
use Rattle.cat_journal.specs.Frames.{payload_of}
use Rattle.cat_journal.specs.Held.{first_payloads, held_count}
use Rattle.cat_journal.specs.Journals.{journal_disk}
use Rattle.cat_keeper.specs.KeeperLaws.{none_flies}
use Rattle.cat_cli.proofs.Counted.{spared, stands, unspoiled, unwritten}
use Rattle.cat_cli.proofs.Gathered.{collects, has_failed, has_kept}
use Rattle.cat_cli.proofs.Left.{counted_at, level_at}
use Rattle.cat_cli.proofs.Unspoiled.{keeps_format}
use Rattle.cat_cli.proofs.collecting.collection_on.Goals as goal

pub returns-in-Ok-hold_collection-clause-collects : goal.returns-in-Ok-hold_collection-clause-collects
returns-in-Ok-hold_collection-clause-collects g c =
    collects {K = Journal g.row.D.Denot g.D.Disk} g.D.Disk.told g.D.Disk.may_leave g.D.Disk.moment g.D.Disk.left_since (λ j. option_map (λ _. payload_of j.frame.items) j.down)
    (λ j. option_map (first_payloads (held_count j.points)) (g.D.Disk.told j.disk)) g.B.Since.since g.B.Since.had g.B.Since.before c.args.disk c.disk_of.result c.in-Ok.store c.in-Ok-hold_collection.store _ c.args.policy.now _ _ c.in-Ok-hold_collection.what
    c.in-Ok.ensures.stored c.in-Ok-hold_collection.ensures.gathered c.requires.begun (c.in-Ok.ensures.bases, c.in-Ok-hold_collection.ensures.bases) c.disk_of.ensures.kept (keeps_format g.D.Disk.told g.D.Disk.may_leave g.D.Disk.moment g.D.Disk.left_since g.T.Stood.since g.T.Stood.count g.T.Stood.past g.T.Stood.began g.T.Stood.shape c.args.disk c.requires.stood c.disk_of.result c.disk_of.ensures.format)

-- the append of its entry failed
pub returns-in-Ok-hold_collection-clause-rose : goal.returns-in-Ok-hold_collection-clause-rose
returns-in-Ok-hold_collection-clause-rose g c failed =
    let store = c.in-Ok-hold_collection.store in
    let x =
    has_failed {K = Journal g.row.D.Denot g.D.Disk} (λ j. option_map (λ _. payload_of j.frame.items) j.down) c.args.policy.now _ _ c.in-Ok.store store c.in-Ok-hold_collection.what c.in-Ok-hold_collection.ensures.gathered failed c.in-Ok-hold_collection.ensures.flies in
    let began = c.in-Ok.ensures.fresh.2 ∙ c.in-Ok.ensures.level ∙ c.requires.fresh in
    let faults = counted_at store.mark.fault _ c.in-Ok.store.opened.faults x.0 c.in-Ok-hold_collection.ensures.level x.1 ∙ sym c.disk_of.ensures.faults in
    subst (λ (x : ℕ × ℕ). Rose x.0 x.1) (λ i. (began i, faults i)) (c.in-Ok-hold_collection.ensures.rose x.0 x.1)

-- or it came to something else
pub returns-in-Ok-hold_collection-clause-level : goal.returns-in-Ok-hold_collection-clause-level
returns-in-Ok-hold_collection-clause-level g c other =
    let store = c.in-Ok-hold_collection.store in
    let none =
    has_kept {K = Journal g.row.D.Denot g.D.Disk} (λ j. option_map (λ _. payload_of j.frame.items) j.down) c.args.policy.now _ _ c.in-Ok.store store c.in-Ok-hold_collection.what c.in-Ok-hold_collection.ensures.gathered other c.in-Ok-hold_collection.ensures.flies in
    let began = c.in-Ok.ensures.fresh.2 ∙ c.in-Ok.ensures.level ∙ c.requires.fresh in
    c.disk_of.ensures.faults ∙ level_at store.mark.fault _ c.in-Ok.store.opened.faults c.in-Ok-hold_collection.ensures.level none ∙ began

-- memory ran out before the desk was made
pub returns-in-Err-hold_collection-clause-stands : goal.returns-in-Err-hold_collection-clause-stands
returns-in-Err-hold_collection-clause-stands g c =
    let stored = rw (sym c.in-Err-hold_collection.ensures.back) at c.in-Ok.ensures.stored in
    stands {K = Journal g.row.D.Denot g.D.Disk} g.D.Disk.told g.D.Disk.may_leave g.D.Disk.moment g.D.Disk.left_since (λ j. j.down) (λ j. option_map (λ _. payload_of j.frame.items) j.down)
    (λ j. option_map (first_payloads (held_count j.points)) (g.D.Disk.told j.disk)) g.B.Since.since g.B.Since.had g.B.Since.before c.args.disk c.disk_of-in-Err-hold_collection.result c.in-Err-hold_collection.store stored (none_flies _ _ stored.up) c.requires.begun c.disk_of-in-Err-hold_collection.ensures.kept

pub returns-in-Err-hold_collection-clause-spared : goal.returns-in-Err-hold_collection-clause-spared
returns-in-Err-hold_collection-clause-spared g c =
    let stored = rw (sym c.in-Err-hold_collection.ensures.back) at c.in-Ok.ensures.stored in
    spared {K = Journal g.row.D.Denot g.D.Disk} g.D.Disk.told g.D.Disk.may_leave g.D.Disk.moment g.D.Disk.left_since (λ j. j.down) (λ j. option_map (λ _. payload_of j.frame.items) j.down)
    (λ j. option_map (first_payloads (held_count j.points)) (g.D.Disk.told j.disk)) g.B.Since.since g.B.Since.had g.B.Since.before c.args.disk c.disk_of-in-Err-hold_collection.result c.in-Err-hold_collection.store stored (none_flies _ _ stored.up) c.requires.begun c.disk_of-in-Err-hold_collection.ensures.kept

pub returns-in-Err-hold_collection-clause-unspoiled : goal.returns-in-Err-hold_collection-clause-unspoiled
returns-in-Err-hold_collection-clause-unspoiled g c other =
    let met = g.met.D.Disk g.world.𝓛 g.world.𝓜 g.world.𝓡 ((λ s x. x), (λ x. x), (λ x. x), λ x. x) in
    let stored = rw (sym c.in-Err-hold_collection.ensures.back) at c.in-Ok.ensures.stored in
    unspoiled {K = Journal g.row.D.Denot g.D.Disk} g.D.Disk.told g.D.Disk.may_leave g.D.Disk.moment g.D.Disk.left_since met.only_now (λ d b told. met.reads_as_image d b told) journal_disk (λ j. j.down) (λ j. option_map (λ _. payload_of j.frame.items) j.down)
    (λ j. option_map (first_payloads (held_count j.points)) (g.D.Disk.told j.disk)) g.B.Since.since g.B.Since.had g.B.Since.before g.T.Stood.since g.T.Stood.count g.T.Stood.past g.T.Stood.began g.T.Stood.shape c.args.disk c.disk_of-in-Err-hold_collection.result c.in-Err-hold_collection.store stored (none_flies _ _ stored.up) c.requires.stood c.disk_of-in-Err-hold_collection.ensures.kept c.disk_of-in-Err-hold_collection.ensures.disk c.disk_of-in-Err-hold_collection.ensures.still

pub returns-in-Err-hold_collection-clause-unwritten : goal.returns-in-Err-hold_collection-clause-unwritten
returns-in-Err-hold_collection-clause-unwritten g c =
    let met = g.met.D.Disk g.world.𝓛 g.world.𝓜 g.world.𝓡 ((λ s x. x), (λ x. x), (λ x. x), λ x. x) in
    let stored = rw (sym c.in-Err-hold_collection.ensures.back) at c.in-Ok.ensures.stored in
    unwritten {K = Journal g.row.D.Denot g.D.Disk} g.D.Disk.told g.D.Disk.may_leave g.D.Disk.moment g.D.Disk.left_since met.only_now (λ d b told. met.reads_as_image d b told) journal_disk (λ j. j.down) (λ j. option_map (λ _. payload_of j.frame.items) j.down)
    (λ j. option_map (first_payloads (held_count j.points)) (g.D.Disk.told j.disk)) g.B.Since.since g.B.Since.had g.B.Since.before g.T.Stood.since g.T.Stood.count g.T.Stood.past g.T.Stood.began g.T.Stood.shape c.args.disk c.disk_of-in-Err-hold_collection.result c.in-Err-hold_collection.store stored (none_flies _ _ stored.up) c.requires.stood c.disk_of-in-Err-hold_collection.ensures.kept c.disk_of-in-Err-hold_collection.ensures.disk c.disk_of-in-Err-hold_collection.ensures.still
