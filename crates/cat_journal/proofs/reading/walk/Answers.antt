use Rattle.std.proofs.Common.{◌≡◌, Bool, true, false, ◌&&◌, sym, ◌∙◌, ap, subst, arith, rules}
use Rattle.std.specs.Prelude.{IfSome}
use Rattle.cat_journal.specs.Reading.{EndsBefore, StandsAt}
use Rattle.cat_journal.proofs.Walking.{first_found, more_found, room_more, walk_end}
use Rattle.cat_journal.proofs.ReadOnly.{reads_then}
use Rattle.cat_journal.proofs.reading.walk.Goals as goal
use Rattle.cat_journal.proofs.reading.walk.Goals.{then-newer, else-newer}

pub returns-in-Ok-Closed-clause-found : goal.returns-in-Ok-Closed-clause-found
returns-in-Ok-Closed-clause-found g c =
    walk_end c.args.newer c.frames.points false (g.D.Disk.told c.args.disk.now) (g.D.Disk.told c.frames.disk) c.frames.invariant.reads.same c.frames.invariant.walked
    (subst (λ s. IfSome (g.D.Disk.told c.frames.disk) (λ bytes. StandsAt c.frames.points.end bytes s)) c.in-Ok-Closed.field-0-is c.in-Ok-Closed.ensures.found)

pub returns-in-Ok-Broken-clause-found : goal.returns-in-Ok-Broken-clause-found
returns-in-Ok-Broken-clause-found g c =
    walk_end c.args.newer c.frames.points true (g.D.Disk.told c.args.disk.now) (g.D.Disk.told c.frames.disk) c.frames.invariant.reads.same c.frames.invariant.walked
    (subst (λ s. IfSome (g.D.Disk.told c.frames.disk) (λ bytes. StandsAt c.frames.points.end bytes s)) c.in-Ok-Broken.field-0-is c.in-Ok-Broken.ensures.found)

pub frames-preserved : goal.frames-preserved
frames-preserved g c =
    let next = subst (λ s. EndsBefore c.frames.points.end c.args.len s) c.in-Ok-Whole.field-0-is c.in-Ok-Whole.ensures.next in
    let both : c.if-newer.pass ≡ (c.args.newer && c.in-Ok-Whole.base) = elim c.if-newer.branch [
      | then-newer w ↦ w.pass-is ∙ sym (ap (λ (t : Bool). t && c.in-Ok-Whole.base) w.if-newer.true)
      | else-newer w ↦ w.pass-is ∙ w.if-newer.false ∙ sym (ap (λ (t : Bool). t && c.in-Ok-Whole.base) w.if-newer.false)
    ] in
    record {
      walked =
          more_found c.args.newer c.in-Ok-Whole.base c.if-newer.pass c.frames.points c.pass.new.self c.in-Ok-Whole.size c.args.len (g.D.Disk.told c.args.disk.now) (g.D.Disk.told c.frames.disk) both c.frames.invariant.reads.same c.frames.invariant.walked
          (subst (λ s. IfSome (g.D.Disk.told c.frames.disk) (λ bytes. StandsAt c.frames.points.end bytes s)) c.in-Ok-Whole.field-0-is c.in-Ok-Whole.ensures.found) c.requires.len next (search rules)
          c.in-Ok.ensures.end c.in-Ok.ensures.at_base c.in-Ok.ensures.before c.in-Ok.ensures.gates;
      reads = reads_then g.D.Disk.told g.D.Disk.may_leave g.D.Disk.moment g.D.Disk.left_since c.args.disk.now c.frames.disk c.frame_at.new.disk c.frames.invariant.reads c.frame_at.ensures.reads;
      inside = omega (arith, next, c.in-Ok.ensures.end);
      room = room_more c.if-newer.pass c.frames.points c.pass.new.self c.in-Ok-Whole.size c.frames.invariant.room c.in-Ok.ensures.before c.in-Ok.ensures.gates c.in-Ok.ensures.end;
      faults = search rules;
    }

pub frames-init : goal.frames-init
frames-init g c = record {
  walked = first_found c.args.newer c.new-points.result (g.D.Disk.told c.args.disk.now) c.args.len c.requires.header c.requires.len c.requires.more c.new-points.ensures.gates c.new-points.ensures.before c.new-points.ensures.end;
  reads = search rules;
  inside = search rules;
  room = search rules;
  faults = search rules;
}
