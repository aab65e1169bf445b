use Rattle.std.proofs.Common.{◌≡◌, ◌≢◌, inl, inr, refl, ◌∙◌}
use Rattle.cat_cli.specs.declared.collecting.Collected.TheVariants as comes
use Rattle.cat_cli.specs.Journals.{DisksFell}
use Rattle.cat_cli.proofs.GatheredRuns.{disks_fell, disks_level, gathers}
use Rattle.cat_cli.proofs.Opened.{disk_fell, rose_first}
use Rattle.cat_cli.proofs.Refused.{of_err, of_ok}
use Rattle.cat_cli.proofs.ServedRuns.{none_opened, refused_back}
use Rattle.cat_cli.proofs.Placed.{stands_as}
use Rattle.cat_cli.proofs.collecting.collect_at.Goals as goal

pub returns-in-Ok-done-clause-collects : goal.returns-in-Ok-done-clause-collects
returns-in-Ok-done-clause-collects g c =
    let rose_is = of_ok _ _ _ _ c.in-Ok-done.is c.collection_on-disk.ensures.rose in
    let level_is = of_ok _ _ _ _ c.in-Ok-done.is c.collection_on-disk.ensures.level in
    let fell : c.in-Ok-done.what ≡ comes.Fault → DisksFell (g.O.Disks.refuses c.args.disks.now c.args.path.now) g.O.D.Disk.faults (g.O.Disks.at_path c.back.new.self c.args.path.now) (g.O.Disks.faults c.args.disks.now) (g.O.Disks.faults c.back.new.self) =
    λ is. disk_fell _ g.O.D.Disk.faults (g.O.Disks.at_path c.args.disks.now c.args.path.now) _ (g.O.Disks.at_path c.back.new.self c.args.path.now) c.collection_on-disk.result.0 _ _ _ _ c.in-Ok.ensures.taken c.back.ensures.stands refl c.in-Ok.ensures.cause.stays c.back.ensures.faults (rose_first 0 _ refl (rose_is is)) in
    gathers g.O.D.Disk.told g.O.D.Disk.may_leave g.O.D.Disk.moment g.O.D.Disk.left_since (g.O.Disks.at_path c.args.disks.now c.args.path.now) _ (g.O.Disks.at_path c.back.new.self c.args.path.now) c.in-Ok.disk c.collection_on-disk.result.0 (stands_as g.O.D.Disk.told g.O.D.Disk.may_leave g.O.D.Disk.moment g.O.D.Disk.left_since g.O.Disks.handed g.met.O.Disks.handed_tells g.met.O.Disks.handed_leaves g.met.O.Disks.handed_moment (g.O.Disks.at_path c.args.disks.now c.args.path.now) c.in-Ok.disk c.in-Ok.ensures.given) c.in-Ok.ensures.taken c.back.ensures.stands
    _ _ _ c.args.policy.now _ _ _ c.in-Ok-done.what c.tell_collected.result
    (of_ok _ _ _ _ c.in-Ok-done.is c.collection_on-disk.ensures.collects) c.tell_collected.ensures.told
    fell (λ other. c.back.ensures.level (level_is other) ∙ c.in-Ok.ensures.cause.stays)

pub returns-in-Ok-done-clause-disk : goal.returns-in-Ok-done-clause-disk
returns-in-Ok-done-clause-disk g c is =
    let rose_is = of_ok _ _ _ _ c.in-Ok-done.is c.collection_on-disk.ensures.rose in
    let fault = disks_fell (c.in-Ok-done.what ≡ comes.Fault) (c.in-Ok-done.what ≢ comes.Fault) (λ x. x ≡ c.in-Ok-done.what) _ c.tell_collected.result is c.tell_collected.ensures.told in
    disk_fell _ g.O.D.Disk.faults (g.O.Disks.at_path c.args.disks.now c.args.path.now) _ (g.O.Disks.at_path c.back.new.self c.args.path.now) c.collection_on-disk.result.0 _ _ _ _ c.in-Ok.ensures.taken c.back.ensures.stands refl c.in-Ok.ensures.cause.stays c.back.ensures.faults (rose_first 0 _ refl (rose_is fault))

pub returns-in-Ok-done-clause-disks_stay : goal.returns-in-Ok-done-clause-disks_stay
returns-in-Ok-done-clause-disks_stay g c spares =
    let level_is = of_ok _ _ _ _ c.in-Ok-done.is c.collection_on-disk.ensures.level in
    let other = disks_level (c.in-Ok-done.what ≡ comes.Fault) (c.in-Ok-done.what ≢ comes.Fault) (λ x. x ≡ c.in-Ok-done.what) _ c.tell_collected.result spares c.tell_collected.ensures.told in
    c.back.ensures.level (level_is other) ∙ c.in-Ok.ensures.cause.stays

pub returns-in-Err-clause-collects : goal.returns-in-Err-clause-collects
returns-in-Err-clause-collects g c =
    let reason_is = of_err _ _ _ _ c.in-Err.is c.collection_on-disk.ensures.reason in
    let stands_is = of_err _ _ _ _ c.in-Err.is c.collection_on-disk.ensures.stands in
    let spared_is = of_err _ _ _ _ c.in-Err.is c.collection_on-disk.ensures.spared in
    let unspoiled_is = of_err _ _ _ _ c.in-Err.is c.collection_on-disk.ensures.unspoiled in
    let unwritten_is = of_err _ _ _ _ c.in-Err.is c.collection_on-disk.ensures.unwritten in
    let cause_is = of_err _ _ _ _ c.in-Err.is c.collection_on-disk.ensures.cause in
    let level_is = of_err _ _ _ _ c.in-Err.is c.collection_on-disk.ensures.level in
    let paused_is = of_err _ _ _ _ c.in-Err.is c.collection_on-disk.ensures.paused in
    inr (refused_back g.O.D.Disk.told g.O.D.Disk.may_leave g.O.D.Disk.moment g.O.D.Disk.left_since (g.O.Disks.at_path c.args.disks.now c.args.path.now) _ (g.O.Disks.at_path c.back.new.self c.args.path.now) c.in-Ok.disk c.collection_on-disk.result.0 (stands_as g.O.D.Disk.told g.O.D.Disk.may_leave g.O.D.Disk.moment g.O.D.Disk.left_since g.O.Disks.handed g.met.O.Disks.handed_tells g.met.O.Disks.handed_leaves g.met.O.Disks.handed_moment (g.O.Disks.at_path c.args.disks.now c.args.path.now) c.in-Ok.disk c.in-Ok.ensures.given) c.in-Ok.ensures.taken c.back.ensures.stands
    (DisksFell (g.O.Disks.refuses c.args.disks.now c.args.path.now) g.O.D.Disk.faults (g.O.Disks.at_path c.back.new.self c.args.path.now) (g.O.Disks.faults c.args.disks.now) (g.O.Disks.faults c.back.new.self)) (g.O.Disks.faults c.back.new.self ≡ g.O.Disks.faults c.args.disks.now) _ _ c.in-Err.why c.refuse-in-Err.result
    reason_is stands_is spared_is unspoiled_is unwritten_is
    (λ is. disk_fell _ g.O.D.Disk.faults (g.O.Disks.at_path c.args.disks.now c.args.path.now) _ (g.O.Disks.at_path c.back.new.self c.args.path.now) c.collection_on-disk.result.0 _ _ _ _ c.in-Ok.ensures.taken c.back.ensures.stands refl c.in-Ok.ensures.cause.stays c.back.ensures.faults (rose_first 0 _ refl (cause_is is)))
    (λ other. c.back.ensures.level (level_is other) ∙ c.in-Ok.ensures.cause.stays) paused_is c.refuse-in-Err.ensures.ends c.refuse-in-Err.ensures.reason c.refuse-in-Err.ensures.told)

-- the disks refused the path
pub returns-in_default-clause-collects : goal.returns-in_default-clause-collects
returns-in_default-clause-collects g c =
    let laws = g.met.O.D.Disk g.world.𝓛 g.world.𝓜 g.world.𝓡 ((λ s x. x), (λ x. x), (λ x. x), λ x. x) in
    inr (none_opened g.O.D.Disk.told g.O.D.Disk.may_leave g.O.D.Disk.moment g.O.D.Disk.left_since laws.only_now (g.O.Disks.at_path c.args.disks.now c.args.path.now) (g.O.Disks.at_path c.open.new.self c.args.path.now) c.in_default.ensures.stays
    (DisksFell (g.O.Disks.refuses c.args.disks.now c.args.path.now) g.O.D.Disk.faults (g.O.Disks.at_path c.open.new.self c.args.path.now) (g.O.Disks.faults c.args.disks.now) (g.O.Disks.faults c.open.new.self)) (g.O.Disks.faults c.open.new.self ≡ g.O.Disks.faults c.args.disks.now) _ _ c.refuse.result
    (record { rose = c.in_default.ensures.cause.failed; cause = inl c.in_default.ensures.refused }) refl c.refuse.ensures.ends c.refuse.ensures.reason c.refuse.ensures.told)
