use Rattle.std.proofs.Common.{◌≡◌, ℕ, List, Option, Ok, IfSome, ◌∙◌, ap, subst, sym}
use Rattle.std.specs.Option.{option_map}
use Rattle.cat_io.specs.Crashes.{Told}
use Rattle.cat_journal.specs.declared.journal.Journal.{Journal}
use Rattle.cat_journal.specs.Frames.{payload_of, recovered}
use Rattle.cat_journal.specs.Held.{first_payloads, held_count}
use Rattle.cat_journal.specs.Journals.{journal_disk}
use Rattle.cat_keeper.specs.Bases.{bases_in}
use Rattle.cat_keeper.specs.KeeperLaws.{none_flies}
use Rattle.cat_model.specs.Mark.{Mark}
use Rattle.cat_cli.specs.declared.unopened.Unopened.{Unopened}
use Rattle.cat_cli.specs.Opening.{IsReason}
use Rattle.cat_cli.specs.Surviving.{images_of}
use Rattle.cat_cli.specs.Unadded.{IsStillSo}
use Rattle.cat_cli.proofs.Opened.{journal_spared, reason_of_entries, store_spared, stored}
use Rattle.cat_cli.proofs.Surviving.{spared_keeper, spared_opening}
use Rattle.cat_cli.proofs.Unspoiled.{are_opened, let_go, shaped, stands_still, unspoiled_unopened, unwritten_of, unwritten_unopened}
use Rattle.cat_cli.proofs.journal.store_on.Goals as goal

pub returns-in-Err-open-clause-reason : goal.returns-in-Err-open-clause-reason
returns-in-Err-open-clause-reason g c =
    subst (λ (why : Unopened). IsReason (g.D.Disk.told c.args.disk) why) (sym c.from.ensures)
    (reason_of_entries (g.D.Disk.told c.args.disk) _ _ c.in-Err-open.fault c.program.ensures c.in-Ok.ensures.payloads (rw (c.new-still.ensures ∙ c.new-watched.ensures) at c.in-Err-open.ensures.illegal))

pub returns-in-Ok-open-clause-stored : goal.returns-in-Ok-open-clause-stored
returns-in-Ok-open-clause-stored g c =
    let kept_of : Journal g.row.D.Denot g.D.Disk → Option (List (List ℕ)) = λ j. option_map (first_payloads (held_count j.points)) (g.D.Disk.told j.disk) in
    let down_of : Journal g.row.D.Denot g.D.Disk → Option ℕ = λ j. j.down in
    let held = c.new-still.ensures ∙ c.new-watched.ensures in
    let payloads = subst (λ (l : Option (List (List ℕ))). Told (g.D.Disk.told c.args.disk) l (λ bytes x. recovered bytes ≡ Ok x)) (ap kept_of (sym held)) c.in-Ok.ensures.payloads in
    stored (g.D.Disk.told c.args.disk) (kept_of c.new-still.result) (kept_of c.in-Ok-open.store.keeper) _ _ c.in-Ok-open.store.opened c.in-Ok-open.store.book (down_of c.in-Ok-open.store.keeper) c.program.ensures payloads c.in-Ok-open.ensures.opened c.in-Ok-open.ensures.stays.payloads
    (c.in-Ok-open.ensures.stays.fallen ∙ ap down_of held ∙ c.in-Ok.ensures.up)

pub returns-in-Ok-open-clause-bases : goal.returns-in-Ok-open-clause-bases
returns-in-Ok-open-clause-bases g c = ap (λ (m : Mark). m.bases) c.in-Ok-open.ensures.mark ∙ ap bases_in (sym c.in-Ok-open.ensures.stays.payloads)

pub returns-in-Ok-open-clause-based : goal.returns-in-Ok-open-clause-based
returns-in-Ok-open-clause-based g c = ap (λ (m : Mark). m.base) c.in-Ok-open.ensures.mark ∙ sym c.in-Ok-open.ensures.place

pub returns-in-Ok-open-clause-level : goal.returns-in-Ok-open-clause-level
returns-in-Ok-open-clause-level g c =
    let faults_of : Journal g.row.D.Denot g.D.Disk → ℕ = λ j. g.D.Disk.faults j.disk in
    c.in-Ok-open.ensures.level ∙ ap faults_of (c.new-still.ensures ∙ c.new-watched.ensures) ∙ c.in-Ok.ensures.stays

pub returns-in-Err-open-clause-level : goal.returns-in-Err-open-clause-level
returns-in-Err-open-clause-level g c other =
    let faults_of : Journal g.row.D.Denot g.D.Disk → ℕ = λ j. g.D.Disk.faults j.disk in
    c.into_disk.ensures.faults ∙ ap faults_of (c.into_inner-journal.ensures.keeper ∙ c.into_inner-watched.ensures.keeper) ∙ c.in-Err-open.ensures.level (store_spared c.in-Err-open.fault (λ is. other (c.from.ensures ∙ is))) ∙ ap faults_of (c.new-still.ensures ∙ c.new-watched.ensures) ∙ c.in-Ok.ensures.stays

pub returns-in-Err-clause-level : goal.returns-in-Err-clause-level
returns-in-Err-clause-level g c other = c.in-Err.ensures.stays (journal_spared c.in-Err.fault (λ is. other (c.from-in-Err.ensures ∙ is)))

pub returns-in-Err-clause-spared : goal.returns-in-Err-clause-spared
returns-in-Err-clause-spared g c =
    spared_opening (g.D.Disk.told c.args.disk) g.D.Disk.may_leave g.D.Disk.moment g.D.Disk.left_since c.args.disk c.in-Err.disk (g.D.Disk.told c.in-Err.disk) c.in-Err.ensures.images

pub returns-in-Err-open-clause-spared : goal.returns-in-Err-open-clause-spared
returns-in-Err-open-clause-spared g c =
    let kept_of : Journal g.row.D.Denot g.D.Disk → Option (List (List ℕ)) = λ j. option_map (first_payloads (held_count j.points)) (g.D.Disk.told j.disk) in
    let flying_of : Journal g.row.D.Denot g.D.Disk → Option (List ℕ) = λ j. option_map (λ _. payload_of j.frame.items) j.down in
    spared_keeper {J = Journal g.row.D.Denot g.D.Disk} g.D.Disk.told g.D.Disk.may_leave g.D.Disk.moment g.D.Disk.left_since journal_disk kept_of flying_of
    g.B.Since.since g.B.Since.had g.B.Since.before c.args.disk c.into_disk.result c.in-Ok.journal c.into_inner-watched.result c.requires.begun c.in-Ok.ensures.payloads (none_flies _ _ c.in-Ok.ensures.up)
    (ap kept_of c.into_inner-watched.ensures.keeper ∙ c.in-Err-open.ensures.stays.payloads ∙ ap kept_of (c.new-still.ensures ∙ c.new-watched.ensures)) (ap flying_of c.into_inner-watched.ensures.keeper ∙ c.in-Err-open.ensures.stays.flies ∙ ap flying_of (c.new-still.ensures ∙ c.new-watched.ensures))
    (c.into_disk.ensures.disk ∙ ap journal_disk c.into_inner-journal.ensures.keeper) c.into_inner-journal.ensures.watched

-- nothing was written
pub new-still-requires-clause-still : goal.new-still-requires-clause-still
new-still-requires-clause-still g c κs within =
    let j = c.in-Ok.journal in
    rw (sym c.new-watched.ensures) at
    (stands_still g.D.Disk.told g.D.Disk.may_leave g.D.Disk.moment g.D.Disk.left_since g.T.Stood.since g.T.Stood.count g.T.Stood.past g.T.Stood.began g.T.Stood.shape c.args.disk c.requires.stood j.disk (option_map (first_payloads (held_count j.points)) (g.D.Disk.told j.disk)) (option_map (λ (n : ℕ). payload_of j.frame.items) j.down)
    c.in-Ok.ensures.payloads c.in-Ok.ensures.images c.in-Ok.ensures.new c.in-Ok.ensures.unwritten c.in-Ok.ensures.durable)

pub new-still-requires-clause-shape : goal.new-still-requires-clause-shape
new-still-requires-clause-shape g c κs within =
    let j = c.in-Ok.journal in
    rw (sym c.new-watched.ensures) at
    (shaped g.D.Disk.told g.D.Disk.may_leave g.D.Disk.moment g.D.Disk.left_since g.T.Stood.since g.T.Stood.count g.T.Stood.past g.T.Stood.began g.T.Stood.shape c.args.disk c.requires.stood j.disk j.format c.in-Ok.ensures.format c.in-Ok.ensures.new c.in-Ok.ensures.unwritten)

pub returns-in-Err-clause-unspoiled : goal.returns-in-Err-clause-unspoiled
returns-in-Err-clause-unspoiled g c other =
    unspoiled_unopened g.D.Disk.told g.D.Disk.may_leave g.D.Disk.moment g.D.Disk.left_since c.args.disk c.in-Err.disk (g.D.Disk.told c.args.disk) (g.D.Disk.told c.in-Err.disk)
    (c.in-Err.ensures.unspoiled (journal_spared c.in-Err.fault (λ is. other (c.from-in-Err.ensures ∙ is)))) c.in-Err.ensures.images

pub returns-in-Err-open-clause-unspoiled : goal.returns-in-Err-open-clause-unspoiled
returns-in-Err-open-clause-unspoiled g c other =
    let met = g.met.D.Disk g.world.𝓛 g.world.𝓜 g.world.𝓡 ((λ s x. x), (λ x. x), (λ x. x), λ x. x) in
    let kept_of : Journal g.row.D.Denot g.D.Disk → Option (List (List ℕ)) = λ j. option_map (first_payloads (held_count j.points)) (g.D.Disk.told j.disk) in
    let flying_of : Journal g.row.D.Denot g.D.Disk → Option (List ℕ) = λ j. option_map (λ _. payload_of j.frame.items) j.down in
    let watched = c.into_inner-watched.result in
    let again = c.into_disk.result in
    let same = ap kept_of c.into_inner-watched.ensures.keeper ∙ c.in-Err-open.ensures.stays.payloads ∙ ap kept_of (c.new-still.ensures ∙ c.new-watched.ensures) in
    let flies = ap flying_of c.into_inner-watched.ensures.keeper ∙ c.in-Err-open.ensures.stays.flies ∙ ap flying_of (c.new-still.ensures ∙ c.new-watched.ensures) in
    let back = c.into_disk.ensures.disk ∙ ap journal_disk c.into_inner-journal.ensures.keeper in
    let_go g.D.Disk.told g.D.Disk.may_leave g.D.Disk.moment g.D.Disk.left_since g.T.Stood.since g.T.Stood.count g.T.Stood.past g.T.Stood.began g.T.Stood.shape c.args.disk c.requires.stood met.only_now (λ d b told. met.reads_as_image d b told) again (kept_of watched) (flying_of watched) (flies ∙ none_flies _ _ c.in-Ok.ensures.up)
    (are_opened (g.D.Disk.told c.args.disk) (g.D.Disk.told again) (kept_of watched) (rw (sym same) at c.in-Ok.ensures.payloads))
    (subst (λ (d : g.row.D.Denot). IfSome (kept_of watched) (IsStillSo g.T.Stood.since g.T.Stood.count g.T.Stood.past g.T.Stood.began (flying_of watched) (g.D.Disk.moment d) (g.D.Disk.may_leave d) (g.D.Disk.left_since d))) (sym back) c.into_inner-watched.ensures.still)

-- nor was anything where a call of the disk failed, but maybe a part of a new journal where there were no bytes
pub returns-in-Err-clause-unwritten : goal.returns-in-Err-clause-unwritten
returns-in-Err-clause-unwritten g c =
    unwritten_unopened g.D.Disk.told g.D.Disk.may_leave g.D.Disk.moment g.D.Disk.left_since c.args.disk c.in-Err.disk c.in-Err.ensures.unwritten c.in-Err.ensures.empty c.in-Err.ensures.images

pub returns-in-Err-open-clause-unwritten : goal.returns-in-Err-open-clause-unwritten
returns-in-Err-open-clause-unwritten g c =
    let met = g.met.D.Disk g.world.𝓛 g.world.𝓜 g.world.𝓡 ((λ s x. x), (λ x. x), (λ x. x), λ x. x) in
    let kept_of : Journal g.row.D.Denot g.D.Disk → Option (List (List ℕ)) = λ j. option_map (first_payloads (held_count j.points)) (g.D.Disk.told j.disk) in
    let flying_of : Journal g.row.D.Denot g.D.Disk → Option (List ℕ) = λ j. option_map (λ _. payload_of j.frame.items) j.down in
    let watched = c.into_inner-watched.result in
    let again = c.into_disk.result in
    let same = ap kept_of c.into_inner-watched.ensures.keeper ∙ c.in-Err-open.ensures.stays.payloads ∙ ap kept_of (c.new-still.ensures ∙ c.new-watched.ensures) in
    let flies = ap flying_of c.into_inner-watched.ensures.keeper ∙ c.in-Err-open.ensures.stays.flies ∙ ap flying_of (c.new-still.ensures ∙ c.new-watched.ensures) in
    let back = c.into_disk.ensures.disk ∙ ap journal_disk c.into_inner-journal.ensures.keeper in
    unwritten_of (g.D.Disk.told c.args.disk) (g.D.Disk.told again) (images_of g.D.Disk.may_leave g.D.Disk.moment g.D.Disk.left_since c.args.disk again)
    (let_go g.D.Disk.told g.D.Disk.may_leave g.D.Disk.moment g.D.Disk.left_since g.T.Stood.since g.T.Stood.count g.T.Stood.past g.T.Stood.began g.T.Stood.shape c.args.disk c.requires.stood met.only_now (λ d b told. met.reads_as_image d b told) again (kept_of watched) (flying_of watched) (flies ∙ none_flies _ _ c.in-Ok.ensures.up)
    (are_opened (g.D.Disk.told c.args.disk) (g.D.Disk.told again) (kept_of watched) (rw (sym same) at c.in-Ok.ensures.payloads))
    (subst (λ (d : g.row.D.Denot). IfSome (kept_of watched) (IsStillSo g.T.Stood.since g.T.Stood.count g.T.Stood.past g.T.Stood.began (flying_of watched) (g.D.Disk.moment d) (g.D.Disk.may_leave d) (g.D.Disk.left_since d))) (sym back) c.into_inner-watched.ensures.still))
