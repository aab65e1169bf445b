use Rattle.std.proofs.Common.{ℕ, refl, subst, sym, ◌∙◌}
use Rattle.std.specs.Option.{option_map}
use Rattle.cat_journal.specs.Frames.{payload_of}
use Rattle.cat_journal.specs.Held.{first_payloads, held_count}
use Rattle.cat_keeper.specs.KeeperLaws.{none_flies}
use Rattle.cat_cli.specs.declared.unopened.Unopened.{Unopened}
use Rattle.cat_cli.specs.Opening.{IsReason}
use Rattle.cat_cli.proofs.Opened.{journal_spared, reason_of_entries}
use Rattle.cat_cli.proofs.Refused.{of_err}
use Rattle.cat_cli.proofs.Renewed.{given_back, held_sparing, opened_as, same_bytes}
use Rattle.cat_cli.proofs.Unadded.{kept, stood}
use Rattle.cat_cli.proofs.Unspoiled.{looked_opened, looked_unopened}
use Rattle.cat_cli.proofs.migrating.place_on.Goals as goal

pub count_on-journal-requires-clause-begun : goal.count_on-journal-requires-clause-begun
count_on-journal-requires-clause-begun g c κs within =
    let j = c.in-Ok.journal in
    stood (option_map (first_payloads (held_count j.points)) (g.D.Disk.told j.disk)) (option_map (λ (n : ℕ). payload_of j.frame.items) j.down) (g.D.Disk.moment j.disk) (g.D.Disk.may_leave j.disk) (g.D.Disk.left_since j.disk)

pub returns-in-Ok-counted-clause-bytes : goal.returns-in-Ok-counted-clause-bytes
returns-in-Ok-counted-clause-bytes g c =
    let j = c.in-Ok.journal in
    let j2 = c.count_on-journal.result.0 in
    let again = c.into_disk-disk.result in
    let was = option_map (first_payloads (held_count j.points)) (g.D.Disk.told j.disk) in
    let is = option_map (first_payloads (held_count j2.points)) (g.D.Disk.told j2.disk) in
    let still =
    kept was is (g.D.Disk.moment j.disk) (g.D.Disk.left_since j.disk) (g.D.Disk.may_leave j.disk) (option_map (λ (n : ℕ). payload_of j2.frame.items) j2.down) (g.D.Disk.moment j2.disk) (g.D.Disk.may_leave j2.disk) (g.D.Disk.left_since j2.disk)
    c.count_on-journal.ensures.told (none_flies _ _ c.count_on-journal.ensures.up) c.count_on-journal.ensures.still in
    let same = given_back g.D.Disk.told g.D.Disk.may_leave g.D.Disk.moment g.D.Disk.left_since j.disk j2.disk again was c.into_disk-disk.ensures.disk still in
    let met = g.met.D.Disk g.world.𝓛 g.world.𝓜 g.world.𝓡 ((λ s x. x), (λ x. x), (λ x. x), λ x. x) in
    opened_as g.D.Disk.told g.D.Disk.may_leave g.D.Disk.moment g.D.Disk.left_since c.args.disk j.disk (g.D.Disk.told c.args.disk) (g.D.Disk.told j.disk) (g.D.Disk.told again) c.in-Ok.ensures.new c.in-Ok.ensures.unwritten (λ r. r.same)
    (same_bytes g.D.Disk.told g.D.Disk.may_leave g.D.Disk.moment g.D.Disk.left_since c.args.disk j.disk again was is (λ b told. met.reads_as_image again b told) c.in-Ok.ensures.holds c.count_on-journal.ensures.told
    (c.into_disk-disk.ensures.payloads c.count_on-journal.ensures.up) c.in-Ok.ensures.durable same)

pub returns-in-Ok-counted-clause-images : goal.returns-in-Ok-counted-clause-images
returns-in-Ok-counted-clause-images g c =
    let j = c.in-Ok.journal in
    let j2 = c.count_on-journal.result.0 in
    let again = c.into_disk-disk.result in
    let was = option_map (first_payloads (held_count j.points)) (g.D.Disk.told j.disk) in
    let is = option_map (first_payloads (held_count j2.points)) (g.D.Disk.told j2.disk) in
    let still =
    kept was is (g.D.Disk.moment j.disk) (g.D.Disk.left_since j.disk) (g.D.Disk.may_leave j.disk) (option_map (λ (n : ℕ). payload_of j2.frame.items) j2.down) (g.D.Disk.moment j2.disk) (g.D.Disk.may_leave j2.disk) (g.D.Disk.left_since j2.disk)
    c.count_on-journal.ensures.told (none_flies _ _ c.count_on-journal.ensures.up) c.count_on-journal.ensures.still in
    let same = given_back g.D.Disk.told g.D.Disk.may_leave g.D.Disk.moment g.D.Disk.left_since j.disk j2.disk again was c.into_disk-disk.ensures.disk still in
    let met = g.met.D.Disk g.world.𝓛 g.world.𝓜 g.world.𝓡 ((λ s x. x), (λ x. x), (λ x. x), λ x. x) in
    held_sparing g.D.Disk.told g.D.Disk.may_leave g.D.Disk.moment g.D.Disk.left_since met.only_now c.args.disk j.disk again (g.D.Disk.told c.args.disk) (g.D.Disk.told j.disk) was c.in-Ok.ensures.payloads c.in-Ok.ensures.holds c.in-Ok.ensures.images c.in-Ok.ensures.durable same

pub returns-in-Err-counted-clause-images : goal.returns-in-Err-counted-clause-images
returns-in-Err-counted-clause-images g c =
    let j = c.in-Ok.journal in
    let j2 = c.count_on-journal.result.0 in
    let again = c.into_disk-disk.result in
    let was = option_map (first_payloads (held_count j.points)) (g.D.Disk.told j.disk) in
    let is = option_map (first_payloads (held_count j2.points)) (g.D.Disk.told j2.disk) in
    let still =
    kept was is (g.D.Disk.moment j.disk) (g.D.Disk.left_since j.disk) (g.D.Disk.may_leave j.disk) (option_map (λ (n : ℕ). payload_of j2.frame.items) j2.down) (g.D.Disk.moment j2.disk) (g.D.Disk.may_leave j2.disk) (g.D.Disk.left_since j2.disk)
    c.count_on-journal.ensures.told (none_flies _ _ c.count_on-journal.ensures.up) c.count_on-journal.ensures.still in
    let same = given_back g.D.Disk.told g.D.Disk.may_leave g.D.Disk.moment g.D.Disk.left_since j.disk j2.disk again was c.into_disk-disk.ensures.disk still in
    let met = g.met.D.Disk g.world.𝓛 g.world.𝓜 g.world.𝓡 ((λ s x. x), (λ x. x), (λ x. x), λ x. x) in
    held_sparing g.D.Disk.told g.D.Disk.may_leave g.D.Disk.moment g.D.Disk.left_since met.only_now c.args.disk j.disk again (g.D.Disk.told c.args.disk) (g.D.Disk.told j.disk) was c.in-Ok.ensures.payloads c.in-Ok.ensures.holds c.in-Ok.ensures.images c.in-Ok.ensures.durable same

pub returns-in-Err-counted-clause-reason : goal.returns-in-Err-counted-clause-reason
returns-in-Err-counted-clause-reason g c =
    subst (λ (why : Unopened). IsReason (g.D.Disk.told c.args.disk) why) (sym c.from-in-Err-counted.ensures)
    (reason_of_entries (g.D.Disk.told c.args.disk) _ _ c.in-Err-counted.fault refl c.in-Ok.ensures.payloads (of_err _ _ _ _ c.in-Err-counted.is c.count_on-journal.ensures.illegal))

pub returns-in-Ok-counted-clause-looked : goal.returns-in-Ok-counted-clause-looked
returns-in-Ok-counted-clause-looked g c =
    let j = c.in-Ok.journal in
    let j2 = c.count_on-journal.result.0 in
    let again = c.into_disk-disk.result in
    let was = option_map (first_payloads (held_count j.points)) (g.D.Disk.told j.disk) in
    let is = option_map (first_payloads (held_count j2.points)) (g.D.Disk.told j2.disk) in
    let still =
    kept was is (g.D.Disk.moment j.disk) (g.D.Disk.left_since j.disk) (g.D.Disk.may_leave j.disk) (option_map (λ (n : ℕ). payload_of j2.frame.items) j2.down) (g.D.Disk.moment j2.disk) (g.D.Disk.may_leave j2.disk) (g.D.Disk.left_since j2.disk)
    c.count_on-journal.ensures.told (none_flies _ _ c.count_on-journal.ensures.up) c.count_on-journal.ensures.still in
    let same = given_back g.D.Disk.told g.D.Disk.may_leave g.D.Disk.moment g.D.Disk.left_since j.disk j2.disk again was c.into_disk-disk.ensures.disk still in
    let met = g.met.D.Disk g.world.𝓛 g.world.𝓜 g.world.𝓡 ((λ s x. x), (λ x. x), (λ x. x), λ x. x) in
    let opens =
    opened_as g.D.Disk.told g.D.Disk.may_leave g.D.Disk.moment g.D.Disk.left_since c.args.disk j.disk (g.D.Disk.told c.args.disk) (g.D.Disk.told j.disk) (g.D.Disk.told again) c.in-Ok.ensures.new c.in-Ok.ensures.unwritten (λ r. r.same)
    (same_bytes g.D.Disk.told g.D.Disk.may_leave g.D.Disk.moment g.D.Disk.left_since c.args.disk j.disk again was is (λ b told. met.reads_as_image again b told) c.in-Ok.ensures.holds c.count_on-journal.ensures.told
    (c.into_disk-disk.ensures.payloads c.count_on-journal.ensures.up) c.in-Ok.ensures.durable same) in
    looked_opened g.D.Disk.told g.D.Disk.may_leave g.D.Disk.moment g.D.Disk.left_since met.only_now (λ d t b le now. met.counts_now d t b le now) c.args.disk j.disk again was c.in-Ok.ensures.payloads opens c.in-Ok.ensures.images same

pub returns-in-Err-counted-clause-looked : goal.returns-in-Err-counted-clause-looked
returns-in-Err-counted-clause-looked g c other =
    let j = c.in-Ok.journal in
    let j2 = c.count_on-journal.result.0 in
    let again = c.into_disk-disk.result in
    let was = option_map (first_payloads (held_count j.points)) (g.D.Disk.told j.disk) in
    let is = option_map (first_payloads (held_count j2.points)) (g.D.Disk.told j2.disk) in
    let still =
    kept was is (g.D.Disk.moment j.disk) (g.D.Disk.left_since j.disk) (g.D.Disk.may_leave j.disk) (option_map (λ (n : ℕ). payload_of j2.frame.items) j2.down) (g.D.Disk.moment j2.disk) (g.D.Disk.may_leave j2.disk) (g.D.Disk.left_since j2.disk)
    c.count_on-journal.ensures.told (none_flies _ _ c.count_on-journal.ensures.up) c.count_on-journal.ensures.still in
    let same = given_back g.D.Disk.told g.D.Disk.may_leave g.D.Disk.moment g.D.Disk.left_since j.disk j2.disk again was c.into_disk-disk.ensures.disk still in
    let met = g.met.D.Disk g.world.𝓛 g.world.𝓜 g.world.𝓡 ((λ s x. x), (λ x. x), (λ x. x), λ x. x) in
    let opens =
    opened_as g.D.Disk.told g.D.Disk.may_leave g.D.Disk.moment g.D.Disk.left_since c.args.disk j.disk (g.D.Disk.told c.args.disk) (g.D.Disk.told j.disk) (g.D.Disk.told again) c.in-Ok.ensures.new c.in-Ok.ensures.unwritten (λ r. r.same)
    (same_bytes g.D.Disk.told g.D.Disk.may_leave g.D.Disk.moment g.D.Disk.left_since c.args.disk j.disk again was is (λ b told. met.reads_as_image again b told) c.in-Ok.ensures.holds c.count_on-journal.ensures.told
    (c.into_disk-disk.ensures.payloads c.count_on-journal.ensures.up) c.in-Ok.ensures.durable same) in
    looked_opened g.D.Disk.told g.D.Disk.may_leave g.D.Disk.moment g.D.Disk.left_since met.only_now (λ d t b le now. met.counts_now d t b le now) c.args.disk j.disk again was c.in-Ok.ensures.payloads opens c.in-Ok.ensures.images same

pub returns-in-Err-clause-looked : goal.returns-in-Err-clause-looked
returns-in-Err-clause-looked g c other =
    looked_unopened g.D.Disk.told g.D.Disk.may_leave g.D.Disk.moment g.D.Disk.left_since c.args.disk c.in-Err.disk (c.in-Err.ensures.unspoiled (journal_spared c.in-Err.fault (λ is. other (c.from.ensures ∙ is)))) c.in-Err.ensures.images
