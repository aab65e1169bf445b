use Rattle.std.proofs.Common.{◌≡◌, ◌+◌, None, [], ◌∷◌, refl, arith, ap, length, length-append}
use Rattle.cat_frames.specs.Payload.{reading_is_not_empty}
use Rattle.cat_keeper.specs.Kinds.{entry_is_no_checkpoint}
use Rattle.cat_journal.specs.declared.journal.Journal.{Journal}
use Rattle.cat_journal.specs.Frames.{format_by}
use Rattle.cat_journal.specs.Held.{held_count, outcome}
use Rattle.cat_journal.proofs.Appended.{none_of, room_for, holds_entry, held_ok, safe_ok, added_ok, exact_ok, formed_ok, held_err, torn_err, same_err, formed_err, one_more_or_not, lifted, on_disk}
use Rattle.cat_journal.proofs.Fitting.{entry_fits}
use Rattle.cat_journal.proofs.journal.JournalKeeper.append.Goals as goal

pub spell-requires-clause-room : goal.spell-requires-clause-room
spell-requires-clause-room g c = (room_for _ _ _ _ c.requires.room (reading_is_not_empty c.args.bytes.now c.requires.reading)).0

pub push_reserved-requires : goal.push_reserved-requires
push_reserved-requires g c = (room_for _ _ _ _ c.requires.room (reading_is_not_empty c.args.bytes.now c.requires.reading)).1

pub append_frame-requires-clause-reading : goal.append_frame-requires-clause-reading
append_frame-requires-clause-reading g c =
    let j = c.args.self.now in
    let was = j.safe (none_of j.down c.in_default.not-Some) in
    entry_fits (g.D.Disk.told j.disk) j.points c.args.bytes.now (g.D.Disk.may_leave j.disk) j.held was c.requires.reading c.requires.few

pub invariant_of-self : goal.invariant_of-self
invariant_of-self g c =
    let j = c.args.self.now in
    let new = c.append_frame.new.disk in
    let up : j.down ≡ None = none_of j.down c.in_default.not-Some in
    let was = j.safe up in
    let x = (record j.points { gates = c.push_reserved.new.self; end = j.points.end + (5 + length c.args.bytes.now) }) in
    let more : held_count x ≡ held_count j.points + 1 = omega (arith, ap length c.push_reserved.ensures.items, length-append j.points.gates.items (j.points.end ∷ [])) in
    record {
      formed = formed_ok format_by j.format j.points.end c.args.bytes.now (g.D.Disk.told j.disk) (g.D.Disk.told new) j.formed c.in-Ok.ensures.added;
      held = held_ok j.points x c.args.bytes.now more refl (g.D.Disk.may_leave j.disk) (g.D.Disk.may_leave new) (holds_entry c.args.bytes.now j.points x (entry_is_no_checkpoint c.args.bytes.now c.requires.reading) c.push_reserved.ensures.items refl refl refl) (g.D.Disk.told j.disk) (g.D.Disk.told new) j.held was c.in-Ok.ensures.added;
      safe = λ up. safe_ok j.points x c.args.bytes.now more refl (g.D.Disk.may_leave j.disk) (g.D.Disk.may_leave new) (g.D.Disk.told j.disk) (g.D.Disk.told new) was c.in-Ok.ensures.added c.in-Ok.ensures.durable;
      torn = λ count is. absurd (c.in_default.not-Some count is);
      fits = omega (arith, c.in-Ok.ensures.fits);
      room = omega (arith, j.room, more);
      few = omega (arith, c.requires.few, ap length c.push_reserved.ensures.items, length-append j.points.gates.items (j.points.end ∷ []));
      known = j.known;
    }

pub invariant_of-self-in-Err : goal.invariant_of-self-in-Err
invariant_of-self-in-Err g c =
    let j = c.args.self.now in
    let new = c.append_frame.new.disk in
    let was = j.safe (none_of j.down c.in_default.not-Some) in
    let run = c.append_frame.ensures.any_moment in
    let fits = entry_fits (g.D.Disk.told j.disk) j.points c.args.bytes.now (g.D.Disk.may_leave j.disk) j.held was c.requires.reading c.requires.few in
    record {
      formed = formed_err j.points c.args.bytes.now c.spell.new.out.items (g.D.Disk.may_leave j.disk) (g.D.Disk.may_leave new) c.requires.short c.spell.ensures format_by j.format (g.D.Disk.told j.disk) (g.D.Disk.told new) j.formed was c.append_frame.ensures.stays
          (λ b is. run.each b (g.met.D.Disk.counts_now new (g.D.Disk.moment j.disk) b run.later (g.met.D.Disk.reads_as_image new b is)));
      held = held_err j.points c.args.bytes.now c.spell.new.out.items (g.D.Disk.may_leave j.disk) (g.D.Disk.may_leave new) c.requires.short c.spell.ensures (g.D.Disk.told j.disk) (g.D.Disk.told new) j.held was fits c.append_frame.ensures.stays
          (λ b is. run.each b (g.met.D.Disk.counts_now new (g.D.Disk.moment j.disk) b run.later (g.met.D.Disk.reads_as_image new b is)));
      safe = λ up. absurd cc;
      torn = λ count is.
          torn_err j.points c.args.bytes.now c.spell.new.out.items (g.D.Disk.may_leave j.disk) (g.D.Disk.may_leave new) c.requires.short c.spell.ensures (g.D.Disk.told j.disk) (g.D.Disk.told new) was fits c.append_frame.ensures.stays
          (λ b is. run.each b (g.met.D.Disk.counts_now new (g.D.Disk.moment j.disk) b run.later (g.met.D.Disk.reads_as_image new b is)))
          (λ b left. run.each b (g.met.D.Disk.counts_now new (g.D.Disk.moment j.disk) b run.later left));
      fits = j.fits;
      room = j.room;
      few = j.few;
      known = j.known;
    }

pub returns-in-Ok-clause-added : goal.returns-in-Ok-clause-added
returns-in-Ok-clause-added g c =
    let j = c.args.self.now in
    let new = c.append_frame.new.disk in
    let was = j.safe (none_of j.down c.in_default.not-Some) in
    let x = (record j.points { gates = c.push_reserved.new.self; end = j.points.end + (5 + length c.args.bytes.now) }) in
    let more : held_count x ≡ held_count j.points + 1 = omega (arith, ap length c.push_reserved.ensures.items, length-append j.points.gates.items (j.points.end ∷ [])) in
    added_ok j.points x c.args.bytes.now more refl (g.D.Disk.may_leave j.disk) (g.D.Disk.may_leave new) (g.D.Disk.told j.disk) (g.D.Disk.told new) was c.in-Ok.ensures.added

pub returns-in-Ok-clause-exact : goal.returns-in-Ok-clause-exact
returns-in-Ok-clause-exact g c =
    let j = c.args.self.now in
    exact_ok (held_count j.points) j.points.end (g.D.Disk.may_leave j.disk) c.args.bytes.now (g.D.Disk.told j.disk) (g.D.Disk.told c.append_frame.new.disk) (j.safe (none_of j.down c.in_default.not-Some)) c.in-Ok.ensures.written

pub returns-in-Err-clause-not_added : goal.returns-in-Err-clause-not_added
returns-in-Err-clause-not_added g c =
    let j = c.args.self.now in
    let new = c.append_frame.new.disk in
    let was = j.safe (none_of j.down c.in_default.not-Some) in
    let run = c.append_frame.ensures.any_moment in
    let fits = entry_fits (g.D.Disk.told j.disk) j.points c.args.bytes.now (g.D.Disk.may_leave j.disk) j.held was c.requires.reading c.requires.few in
    same_err j.points c.args.bytes.now c.spell.new.out.items (g.D.Disk.may_leave j.disk) (g.D.Disk.may_leave new) c.requires.short c.spell.ensures (g.D.Disk.told j.disk) (g.D.Disk.told new) was fits c.append_frame.ensures.stays
    (λ b is. run.each b (g.met.D.Disk.counts_now new (g.D.Disk.moment j.disk) b run.later (g.met.D.Disk.reads_as_image new b is)))

pub returns-in-Ok-clause-any_moment : goal.returns-in-Ok-clause-any_moment
returns-in-Ok-clause-any_moment g c up =
    let j = c.args.self.now in
    let was = j.safe up in
    let fits = entry_fits (g.D.Disk.told j.disk) j.points c.args.bytes.now (g.D.Disk.may_leave j.disk) j.held was c.requires.reading c.requires.few in
    let disk_of : Journal g.row.D.Denot g.D.Disk → g.row.D.Denot = λ k. k.disk in
    lifted g.D.Disk.moment g.D.Disk.left_since disk_of outcome j _ _ _ c.append_frame.ensures.any_moment
    (λ b r may is. one_more_or_not (g.D.Disk.told j.disk) (held_count j.points) j.points.end (g.D.Disk.may_leave j.disk) c.args.bytes.now b r c.requires.short was fits may is)

pub returns-in-Ok-clause-images : goal.returns-in-Ok-clause-images
returns-in-Ok-clause-images g c up =
    let j = c.args.self.now in
    let was = j.safe up in
    let fits = entry_fits (g.D.Disk.told j.disk) j.points c.args.bytes.now (g.D.Disk.may_leave j.disk) j.held was c.requires.reading c.requires.few in
    let disk_of : Journal g.row.D.Denot g.D.Disk → g.row.D.Denot = λ k. k.disk in
    on_disk g.D.Disk.moment g.D.Disk.left_since disk_of j _ _ _ c.append_frame.ensures.any_moment
    (λ b may. one_more_or_not (g.D.Disk.told j.disk) (held_count j.points) j.points.end (g.D.Disk.may_leave j.disk) c.args.bytes.now b (outcome b) c.requires.short was fits may refl)

pub returns-in-Err-clause-any_moment : goal.returns-in-Err-clause-any_moment
returns-in-Err-clause-any_moment g c up =
    let j = c.args.self.now in
    let was = j.safe up in
    let fits = entry_fits (g.D.Disk.told j.disk) j.points c.args.bytes.now (g.D.Disk.may_leave j.disk) j.held was c.requires.reading c.requires.few in
    let disk_of : Journal g.row.D.Denot g.D.Disk → g.row.D.Denot = λ k. k.disk in
    lifted g.D.Disk.moment g.D.Disk.left_since disk_of outcome j _ _ _ c.append_frame.ensures.any_moment
    (λ b r may is. one_more_or_not (g.D.Disk.told j.disk) (held_count j.points) j.points.end (g.D.Disk.may_leave j.disk) c.args.bytes.now b r c.requires.short was fits may is)

pub returns-in-Err-clause-images : goal.returns-in-Err-clause-images
returns-in-Err-clause-images g c up =
    let j = c.args.self.now in
    let was = j.safe up in
    let fits = entry_fits (g.D.Disk.told j.disk) j.points c.args.bytes.now (g.D.Disk.may_leave j.disk) j.held was c.requires.reading c.requires.few in
    let disk_of : Journal g.row.D.Denot g.D.Disk → g.row.D.Denot = λ k. k.disk in
    on_disk g.D.Disk.moment g.D.Disk.left_since disk_of j _ _ _ c.append_frame.ensures.any_moment
    (λ b may. one_more_or_not (g.D.Disk.told j.disk) (held_count j.points) j.points.end (g.D.Disk.may_leave j.disk) c.args.bytes.now b (outcome b) c.requires.short was fits may refl)
