use Rattle.std.proofs.Common.{◌≡◌, ◌+◌, ℕ, None, refl, sym, arith, ap, length}
use Rattle.cat_keeper.specs.Kinds.{whole_is_checkpoint, checkpoint_is_not_empty}
use Rattle.cat_journal.specs.declared.journal.Journal.{Journal}
use Rattle.cat_journal.specs.Frames.{format_by}
use Rattle.cat_journal.specs.Held.{held_count, outcome}
use Rattle.cat_journal.proofs.Appended.{none_of, room_for, holds_base, held_ok, safe_ok, added_ok, exact_ok, formed_ok, held_err, torn_err, same_err, formed_err, one_more_or_not, lifted, on_disk}
use Rattle.cat_journal.proofs.Fitting.{base_fits}
use Rattle.cat_journal.proofs.journal.JournalKeeper.rebase.Goals as goal

pub spell-requires-clause-room : goal.spell-requires-clause-room
spell-requires-clause-room g c = (room_for _ _ _ _ c.requires.room (checkpoint_is_not_empty c.args.bytes.now (whole_is_checkpoint c.args.bytes.now c.requires.reading))).0

pub append_frame-requires-clause-reading : goal.append_frame-requires-clause-reading
append_frame-requires-clause-reading g c =
    let j = c.args.self.now in
    let was = j.safe (none_of j.down c.in_default.not-Some) in
    base_fits (g.D.Disk.told j.disk) j.points.end j.format c.args.bytes.now j.formed c.requires.reading c.requires.format

pub invariant_of-self : goal.invariant_of-self
invariant_of-self g c =
    let j = c.args.self.now in
    let new = c.append_frame.new.disk in
    let up : j.down ≡ None = none_of j.down c.in_default.not-Some in
    let was = j.safe up in
    let x = (record c.rebase.new.self { first = c.args.place; end = c.rebase.new.self.end + (5 + length c.args.bytes.now) }) in
    let more : held_count x ≡ held_count j.points + 1 = omega (arith, c.rebase.ensures.before, ap length c.rebase.ensures.gates) in
    let end : x.end ≡ j.points.end + (5 + length c.args.bytes.now) = ap (λ (n : ℕ). n + (5 + length c.args.bytes.now)) c.rebase.ensures.end in
    record {
      formed = formed_ok format_by j.format j.points.end c.args.bytes.now (g.D.Disk.told j.disk) (g.D.Disk.told new) j.formed c.in-Ok.ensures.added;
      held = held_ok j.points x c.args.bytes.now more end (g.D.Disk.may_leave j.disk) (g.D.Disk.may_leave new) (holds_base c.args.bytes.now j.points x (whole_is_checkpoint c.args.bytes.now c.requires.reading) c.rebase.ensures.gates c.rebase.ensures.before c.rebase.ensures.base (sym c.requires.place)) (g.D.Disk.told j.disk) (g.D.Disk.told new) j.held was c.in-Ok.ensures.added;
      safe = λ up. safe_ok j.points x c.args.bytes.now more end (g.D.Disk.may_leave j.disk) (g.D.Disk.may_leave new) (g.D.Disk.told j.disk) (g.D.Disk.told new) was c.in-Ok.ensures.added c.in-Ok.ensures.durable;
      torn = λ count is. absurd (c.in_default.not-Some count is);
      fits = omega (arith, end, c.in-Ok.ensures.fits);
      room = omega (arith, end, j.room, more);
      few = omega (arith, ap length c.rebase.ensures.gates);
      known = j.known;
    }

pub invariant_of-self-in-Err : goal.invariant_of-self-in-Err
invariant_of-self-in-Err g c =
    let j = c.args.self.now in
    let new = c.append_frame.new.disk in
    let was = j.safe (none_of j.down c.in_default.not-Some) in
    let run = c.append_frame.ensures.any_moment in
    let fits = base_fits (g.D.Disk.told j.disk) j.points.end j.format c.args.bytes.now j.formed c.requires.reading c.requires.format in
    record {
      formed = formed_err j.points c.args.bytes.now c.spell.new.out.items (g.D.Disk.may_leave j.disk) (g.D.Disk.may_leave new) c.requires.short c.spell.ensures format_by j.format (g.D.Disk.told j.disk) (g.D.Disk.told new) j.formed was c.append_frame.ensures.stays
          (λ b is. run.each b (g.met.D.Disk.counts_now new (g.D.Disk.moment j.disk) b run.later (g.met.D.Disk.reads_as_image new b is)));
      held = held_err j.points c.args.bytes.now c.spell.new.out.items (g.D.Disk.may_leave j.disk) (g.D.Disk.may_leave new) c.requires.short c.spell.ensures (g.D.Disk.told j.disk) (g.D.Disk.told new) j.held was fits c.append_frame.ensures.stays
          (λ b is. run.each b (g.met.D.Disk.counts_now new (g.D.Disk.moment j.disk) b run.later (g.met.D.Disk.reads_as_image new b is)));
      safe = λ up. absurd cc;
      torn = λ count is.
          torn_err j.points c.args.bytes.now c.spell.new.out.items (g.D.Disk.may_leave j.disk) (g.D.Disk.may_leave new) c.requires.short c.spell.ensures (g.D.Disk.told j.disk) (g.D.Disk.told new) was fits c.append_frame.ensures.stays
          (λ b is. run.each b (g.met.D.Disk.counts_now new (g.D.Disk.moment j.disk) b run.later (g.met.D.Disk.reads_as_image new b is)))
          (λ b left. run.each b (g.met.D.Disk.counts_now new (g.D.Disk.moment j.disk) b run.later left));
      fits = j.fits;
      room = j.room;
      few = j.few;
      known = j.known;
    }

pub returns-in-Ok-clause-added : goal.returns-in-Ok-clause-added
returns-in-Ok-clause-added g c =
    let j = c.args.self.now in
    let new = c.append_frame.new.disk in
    let was = j.safe (none_of j.down c.in_default.not-Some) in
    let x = (record c.rebase.new.self { first = c.args.place; end = c.rebase.new.self.end + (5 + length c.args.bytes.now) }) in
    let more : held_count x ≡ held_count j.points + 1 = omega (arith, c.rebase.ensures.before, ap length c.rebase.ensures.gates) in
    let end : x.end ≡ j.points.end + (5 + length c.args.bytes.now) = ap (λ (n : ℕ). n + (5 + length c.args.bytes.now)) c.rebase.ensures.end in
    added_ok j.points x c.args.bytes.now more end (g.D.Disk.may_leave j.disk) (g.D.Disk.may_leave new) (g.D.Disk.told j.disk) (g.D.Disk.told new) was c.in-Ok.ensures.added

pub returns-in-Ok-clause-exact : goal.returns-in-Ok-clause-exact
returns-in-Ok-clause-exact g c =
    let j = c.args.self.now in
    exact_ok (held_count j.points) j.points.end (g.D.Disk.may_leave j.disk) c.args.bytes.now (g.D.Disk.told j.disk) (g.D.Disk.told c.append_frame.new.disk) (j.safe (none_of j.down c.in_default.not-Some)) c.in-Ok.ensures.written

pub returns-in-Err-clause-not_added : goal.returns-in-Err-clause-not_added
returns-in-Err-clause-not_added g c =
    let j = c.args.self.now in
    let new = c.append_frame.new.disk in
    let was = j.safe (none_of j.down c.in_default.not-Some) in
    let run = c.append_frame.ensures.any_moment in
    let fits = base_fits (g.D.Disk.told j.disk) j.points.end j.format c.args.bytes.now j.formed c.requires.reading c.requires.format in
    same_err j.points c.args.bytes.now c.spell.new.out.items (g.D.Disk.may_leave j.disk) (g.D.Disk.may_leave new) c.requires.short c.spell.ensures (g.D.Disk.told j.disk) (g.D.Disk.told new) was fits c.append_frame.ensures.stays
    (λ b is. run.each b (g.met.D.Disk.counts_now new (g.D.Disk.moment j.disk) b run.later (g.met.D.Disk.reads_as_image new b is)))

pub returns-in-Ok-clause-any_moment : goal.returns-in-Ok-clause-any_moment
returns-in-Ok-clause-any_moment g c up =
    let j = c.args.self.now in
    let was = j.safe up in
    let fits = base_fits (g.D.Disk.told j.disk) j.points.end j.format c.args.bytes.now j.formed c.requires.reading c.requires.format in
    let disk_of : Journal g.row.D.Denot g.D.Disk → g.row.D.Denot = λ k. k.disk in
    lifted g.D.Disk.moment g.D.Disk.left_since disk_of outcome j _ _ _ c.append_frame.ensures.any_moment
    (λ b r may is. one_more_or_not (g.D.Disk.told j.disk) (held_count j.points) j.points.end (g.D.Disk.may_leave j.disk) c.args.bytes.now b r c.requires.short was fits may is)

pub returns-in-Ok-clause-images : goal.returns-in-Ok-clause-images
returns-in-Ok-clause-images g c up =
    let j = c.args.self.now in
    let was = j.safe up in
    let fits = base_fits (g.D.Disk.told j.disk) j.points.end j.format c.args.bytes.now j.formed c.requires.reading c.requires.format in
    let disk_of : Journal g.row.D.Denot g.D.Disk → g.row.D.Denot = λ k. k.disk in
    on_disk g.D.Disk.moment g.D.Disk.left_since disk_of j _ _ _ c.append_frame.ensures.any_moment
    (λ b may. one_more_or_not (g.D.Disk.told j.disk) (held_count j.points) j.points.end (g.D.Disk.may_leave j.disk) c.args.bytes.now b (outcome b) c.requires.short was fits may refl)

pub returns-in-Err-clause-any_moment : goal.returns-in-Err-clause-any_moment
returns-in-Err-clause-any_moment g c up =
    let j = c.args.self.now in
    let was = j.safe up in
    let fits = base_fits (g.D.Disk.told j.disk) j.points.end j.format c.args.bytes.now j.formed c.requires.reading c.requires.format in
    let disk_of : Journal g.row.D.Denot g.D.Disk → g.row.D.Denot = λ k. k.disk in
    lifted g.D.Disk.moment g.D.Disk.left_since disk_of outcome j _ _ _ c.append_frame.ensures.any_moment
    (λ b r may is. one_more_or_not (g.D.Disk.told j.disk) (held_count j.points) j.points.end (g.D.Disk.may_leave j.disk) c.args.bytes.now b r c.requires.short was fits may is)

pub returns-in-Err-clause-images : goal.returns-in-Err-clause-images
returns-in-Err-clause-images g c up =
    let j = c.args.self.now in
    let was = j.safe up in
    let fits = base_fits (g.D.Disk.told j.disk) j.points.end j.format c.args.bytes.now j.formed c.requires.reading c.requires.format in
    let disk_of : Journal g.row.D.Denot g.D.Disk → g.row.D.Denot = λ k. k.disk in
    on_disk g.D.Disk.moment g.D.Disk.left_since disk_of j _ _ _ c.append_frame.ensures.any_moment
    (λ b may. one_more_or_not (g.D.Disk.told j.disk) (held_count j.points) j.points.end (g.D.Disk.may_leave j.disk) c.args.bytes.now b (outcome b) c.requires.short was fits may refl)
