use Rattle.std.proofs.Common.{refl}
use Rattle.cat_journal.proofs.Migrated.{formed_newer, held_newer, image_newer, safe_newer, told_images, told_newer, told_stands}
use Rattle.cat_journal.proofs.journal.Journal.open_format.Goals as goal

pub invariant_of-result : goal.invariant_of-result
invariant_of-result g c =
    let j = c.args.self in
    let d = c.persist.new.disk in
    let was = j.safe c.requires.up in
    record {
      formed = formed_newer j.points j.format (g.D.Disk.may_leave j.disk) (g.D.Disk.may_leave d) c.requires.older (g.D.Disk.told j.disk) (g.D.Disk.told d) j.held was j.formed c.in-Ok.ensures.written;
      held = held_newer j.points j.format (g.D.Disk.may_leave j.disk) (g.D.Disk.may_leave d) c.requires.older (g.D.Disk.told j.disk) (g.D.Disk.told d) j.held was j.formed c.in-Ok.ensures.written;
      safe = λ up. safe_newer j.points j.format (g.D.Disk.may_leave j.disk) (g.D.Disk.may_leave d) c.requires.older (g.D.Disk.told j.disk) (g.D.Disk.told d) j.held was j.formed c.in-Ok.ensures.written c.in-Ok.ensures.durable;
      torn = λ count is. absurd cc;
      fits = j.fits;
      room = j.room;
      few = j.few;
      known = refl;
    }

pub returns-in-Ok-clause-told : goal.returns-in-Ok-clause-told
returns-in-Ok-clause-told g c =
    let j = c.args.self in
    let d = c.persist.new.disk in
    told_newer j.points j.format (g.D.Disk.may_leave j.disk) (g.D.Disk.may_leave d) c.requires.older (g.D.Disk.told j.disk) (g.D.Disk.told d) j.held (j.safe c.requires.up) j.formed c.in-Ok.ensures.written

pub returns-in-Ok-clause-images : goal.returns-in-Ok-clause-images
returns-in-Ok-clause-images g c =
    let j = c.args.self in
    let d = c.persist.new.disk in
    told_images g.D.Disk.moment g.D.Disk.left_since (g.D.Disk.told j.disk) j.disk d _ c.persist.ensures.any_moment
    (image_newer j.points j.format (g.D.Disk.may_leave j.disk) (g.D.Disk.may_leave d) c.requires.older (g.D.Disk.told j.disk) (g.D.Disk.told d) j.held (j.safe c.requires.up) j.formed)

pub returns-in-Err-clause-stands : goal.returns-in-Err-clause-stands
returns-in-Err-clause-stands g c =
    let j = c.args.self in
    let d = c.persist.new.disk in
    let run = c.persist.ensures.any_moment in
    let met = g.met.D.Disk g.world.𝓛 g.world.𝓜 g.world.𝓡 ((λ s x. x), (λ x. x), (λ x. x), λ x. x) in
    let image = image_newer j.points j.format (g.D.Disk.may_leave j.disk) (g.D.Disk.may_leave d) c.requires.older (g.D.Disk.told j.disk) (g.D.Disk.told d) j.held (j.safe c.requires.up) j.formed in
    rw c.into_inner.ensures
    (told_stands (g.D.Disk.told j.disk) (g.D.Disk.told d) _ c.persist.ensures.part
    (λ b is. image b (run.each b (met.counts_now d (g.D.Disk.moment j.disk) b run.later (met.reads_as_image d b is)))))

pub returns-in-Err-clause-images : goal.returns-in-Err-clause-images
returns-in-Err-clause-images g c =
    let j = c.args.self in
    let d = c.persist.new.disk in
    rw c.into_inner.ensures
    (told_images g.D.Disk.moment g.D.Disk.left_since (g.D.Disk.told j.disk) j.disk d _ c.persist.ensures.any_moment
    (image_newer j.points j.format (g.D.Disk.may_leave j.disk) (g.D.Disk.may_leave d) c.requires.older (g.D.Disk.told j.disk) (g.D.Disk.told d) j.held (j.safe c.requires.up) j.formed))
