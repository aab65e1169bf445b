use Rattle.std.proofs.Common.{rules, ◌≡◌, inl, inr, refl, ◌∙◌}
use Rattle.cat_cli.specs.Journals.{DisksFell, RoseBy}
use Rattle.cat_cli.proofs.Opened.{disk_fell, rose_first, rose_there}
use Rattle.cat_cli.proofs.Refused.{of_err, of_ok}
use Rattle.cat_cli.proofs.ServedRuns.{none_opened, refused_back, serves_there}
use Rattle.cat_cli.proofs.Placed.{stands_as}
use Rattle.cat_cli.proofs.serving.serve.Goals as goal

pub returns-in-Ok-ended-clause-served : goal.returns-in-Ok-ended-clause-served
returns-in-Ok-ended-clause-served g c =
    let told = c.tell_end.ensures.told in
    serves_there g.O.D.Disk.told g.O.D.Disk.may_leave g.O.D.Disk.moment g.O.D.Disk.left_since (g.O.Disks.at_path c.args.disks.now c.args.path.now) _ (g.O.Disks.at_path c.back.new.self c.args.path.now) c.in-Ok.disk c.serve_on-disk.result.0 (stands_as g.O.D.Disk.told g.O.D.Disk.may_leave g.O.D.Disk.moment g.O.D.Disk.left_since g.O.Disks.handed g.met.O.Disks.handed_tells g.met.O.Disks.handed_leaves g.met.O.Disks.handed_moment (g.O.Disks.at_path c.args.disks.now c.args.path.now) c.in-Ok.disk c.in-Ok.ensures.given) c.in-Ok.ensures.taken c.back.ensures.stands
    _ _ _ _ _ _ (DisksFell (g.O.Disks.refuses c.args.disks.now c.args.path.now) g.O.D.Disk.faults (g.O.Disks.at_path c.back.new.self c.args.path.now) (g.O.Disks.faults c.args.disks.now) (g.O.Disks.faults c.back.new.self))
    (RoseBy (g.O.Disks.faults c.args.disks.now) (g.O.Disks.faults c.back.new.self)) _ _ _ _ (g.O.D.Disk.faults c.serve_on-disk.result.0) c.in-Ok-ended.end _ told.0 c.tell_end.result
    (of_ok _ _ _ _ c.in-Ok-ended.is c.serve_on-disk.ensures.comes) (λ count counted. rose_there _ _ _ _ count c.in-Ok.ensures.cause.stays c.back.ensures.faults counted)
    (search rules) (search rules) (λ none. c.back.ensures.level none ∙ c.in-Ok.ensures.cause.stays) told.1 told.2

pub returns-in-Err-clause-served : goal.returns-in-Err-clause-served
returns-in-Err-clause-served g c =
    let reason_is = of_err _ _ _ _ c.in-Err.is c.serve_on-disk.ensures.reason in
    let stands_is = of_err _ _ _ _ c.in-Err.is c.serve_on-disk.ensures.stands in
    let spared_is = of_err _ _ _ _ c.in-Err.is c.serve_on-disk.ensures.spared in
    let unspoiled_is = of_err _ _ _ _ c.in-Err.is c.serve_on-disk.ensures.unspoiled in
    let unwritten_is = of_err _ _ _ _ c.in-Err.is c.serve_on-disk.ensures.unwritten in
    let cause_is = of_err _ _ _ _ c.in-Err.is c.serve_on-disk.ensures.cause in
    let level_is = of_err _ _ _ _ c.in-Err.is c.serve_on-disk.ensures.level in
    let untouched_is = of_err _ _ _ _ c.in-Err.is c.serve_on-disk.ensures.untouched in
    inr (refused_back g.O.D.Disk.told g.O.D.Disk.may_leave g.O.D.Disk.moment g.O.D.Disk.left_since (g.O.Disks.at_path c.args.disks.now c.args.path.now) _ (g.O.Disks.at_path c.back.new.self c.args.path.now) c.in-Ok.disk c.serve_on-disk.result.0 (stands_as g.O.D.Disk.told g.O.D.Disk.may_leave g.O.D.Disk.moment g.O.D.Disk.left_since g.O.Disks.handed g.met.O.Disks.handed_tells g.met.O.Disks.handed_leaves g.met.O.Disks.handed_moment (g.O.Disks.at_path c.args.disks.now c.args.path.now) c.in-Ok.disk c.in-Ok.ensures.given) c.in-Ok.ensures.taken c.back.ensures.stands
    (DisksFell (g.O.Disks.refuses c.args.disks.now c.args.path.now) g.O.D.Disk.faults (g.O.Disks.at_path c.back.new.self c.args.path.now) (g.O.Disks.faults c.args.disks.now) (g.O.Disks.faults c.back.new.self)) (g.O.Disks.faults c.back.new.self ≡ g.O.Disks.faults c.args.disks.now) _ _ c.in-Err.why c.refuse-in-Err.result
    reason_is stands_is spared_is unspoiled_is unwritten_is
    (λ is. disk_fell _ g.O.D.Disk.faults (g.O.Disks.at_path c.args.disks.now c.args.path.now) _ (g.O.Disks.at_path c.back.new.self c.args.path.now) c.serve_on-disk.result.0 _ _ _ _ c.in-Ok.ensures.taken c.back.ensures.stands refl c.in-Ok.ensures.cause.stays c.back.ensures.faults (rose_first 0 _ refl (cause_is is)))
    (λ other. c.back.ensures.level (level_is other) ∙ c.in-Ok.ensures.cause.stays) untouched_is c.refuse-in-Err.ensures.ends c.refuse-in-Err.ensures.reason c.refuse-in-Err.ensures.told)

-- the disks refused the path
pub returns-in_default-clause-served : goal.returns-in_default-clause-served
returns-in_default-clause-served g c =
    let laws = g.met.O.D.Disk g.world.𝓛 g.world.𝓜 g.world.𝓡 ((λ s x. x), (λ x. x), (λ x. x), λ x. x) in
    inr (none_opened g.O.D.Disk.told g.O.D.Disk.may_leave g.O.D.Disk.moment g.O.D.Disk.left_since laws.only_now (g.O.Disks.at_path c.args.disks.now c.args.path.now) (g.O.Disks.at_path c.open.new.self c.args.path.now) c.in_default.ensures.stays
    (DisksFell (g.O.Disks.refuses c.args.disks.now c.args.path.now) g.O.D.Disk.faults (g.O.Disks.at_path c.open.new.self c.args.path.now) (g.O.Disks.faults c.args.disks.now) (g.O.Disks.faults c.open.new.self)) (g.O.Disks.faults c.open.new.self ≡ g.O.Disks.faults c.args.disks.now) _ _ c.refuse.result
    (record { rose = c.in_default.ensures.cause.failed; cause = inl c.in_default.ensures.refused }) (refl, refl) c.refuse.ensures.ends c.refuse.ensures.reason c.refuse.ensures.told)
