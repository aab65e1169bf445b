use Rattle.std.proofs.Common.{ℕ, List, [], ◌∷◌, ◌++◌, reverse, Option, IfSome, sym, ◌∙◌, ap, subst}
use Rattle.std.specs.Option.{option_map}
use Rattle.cat_core.specs.Opening.{Opens}
use Rattle.cat_core.specs.Records.{StandFlown}
use Rattle.cat_journal.specs.declared.journal.Journal.{Journal}
use Rattle.cat_journal.specs.Frames.{payload_of}
use Rattle.cat_journal.specs.Held.{first_payloads, held_count}
use Rattle.cat_journal.specs.Journals.{journal_disk}
use Rattle.cat_cli.specs.Surviving.{FlownOpen}
use Rattle.cat_cli.proofs.Opened.{none_down}
use Rattle.cat_cli.proofs.Surviving.{both_of, flown_by, leaves_of}
use Rattle.cat_cli.proofs.Unspoiled.{shape_at}
use Rattle.cat_cli.proofs.journal.disk_of.Goals as goal

pub returns-clause-disk : goal.returns-clause-disk
returns-clause-disk g c = c.into_disk.ensures.disk ∙ ap journal_disk (c.into_inner-journal.ensures.keeper ∙ c.into_inner-watched.ensures.keeper ∙ c.into_keeper-still.ensures)

pub returns-clause-still : goal.returns-clause-still
returns-clause-still g c = rw (c.into_inner-watched.ensures.keeper ∙ c.into_keeper-still.ensures) at c.into_inner-watched.ensures.still

pub returns-clause-format : goal.returns-clause-format
returns-clause-format g c =
    let form_of : Journal g.row.D.Denot g.D.Disk → ℕ = λ j. j.format in
    shape_at (g.D.Disk.told c.into_disk.result) g.T.Stood.shape (form_of c.into_inner-journal.result) c.into_disk.ensures.format (subst g.T.Stood.shape (ap form_of (sym c.into_inner-journal.ensures.keeper)) c.into_inner-watched.ensures.shape)

pub returns-clause-kept : goal.returns-clause-kept
returns-clause-kept g c =
    let held = c.into_inner-watched.ensures.keeper ∙ c.into_keeper-still.ensures in
    let same = c.into_inner-journal.ensures.keeper ∙ held in
    let kept_of : Journal g.row.D.Denot g.D.Disk → Option (List (List ℕ)) = λ j. option_map (first_payloads (held_count j.points)) (g.D.Disk.told j.disk) in
    let flying_of : Journal g.row.D.Denot g.D.Disk → Option (List ℕ) = λ j. option_map (λ _. payload_of j.frame.items) j.down in
    leaves_of {J = Journal g.row.D.Denot g.D.Disk} g.D.Disk.told g.D.Disk.may_leave g.D.Disk.moment g.D.Disk.left_since journal_disk kept_of flying_of g.B.Since.since g.B.Since.had g.B.Since.before
    c.args.store.opened (reverse c.args.store.book.log) (λ j. j.down) c.into_disk.result c.args.store.keeper (c.into_disk.ensures.disk ∙ ap journal_disk same) c.history.ensures.legal c.into_disk.ensures.headed c.log_is_kept.ensures.payloads c.log_is_kept.ensures.again
    (flown_by (flying_of c.args.store.keeper) c.args.store.mark.fault (λ p. IfSome (kept_of c.args.store.keeper) (λ l. FlownOpen c.args.store.opened (reverse c.args.store.book.log) p (l ++ p ∷ []))) c.log_is_kept.ensures.flies
    (λ x is. both_of (λ l. StandFlown c.args.store.opened (reverse c.args.store.book.log) x.payload (l ++ x.payload ∷ [])) (λ l. Opens c.args.store.opened.state.limits (l ++ x.payload ∷ [])) (kept_of c.args.store.keeper) (c.log_is_kept.ensures.flown x is) (c.log_is_kept.ensures.again_flown x is)))
    (rw same at c.into_disk.ensures.payloads) (rw same at c.into_disk.ensures.durable) (rw same at c.into_disk.ensures.in_flight) (rw same at c.into_disk.ensures.torn) (none_down _ _) (rw held at c.into_inner-journal.ensures.watched)
