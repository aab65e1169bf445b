use Rattle.std.proofs.Common.{rules, ◌≡◌, [], inl, inr, refl, ◌∙◌, ap}
use Rattle.cat_cli.specs.Journals.{DisksFell, RoseBy}
use Rattle.cat_serve.specs.ReadingLaws.{some_readings}
use Rattle.cat_cli.proofs.Opened.{disk_fell, rose_first, rose_there}
use Rattle.cat_cli.proofs.Ran.{says}
use Rattle.cat_cli.proofs.Refused.{never_opened, of_err, of_ok, refused_there}
use Rattle.cat_cli.proofs.Placed.{stands_as}
use Rattle.cat_cli.proofs.scripting.script.Goals as goal

pub returns-in-Ok-held-clause-replies : goal.returns-in-Ok-held-clause-replies
returns-in-Ok-held-clause-replies g c =
    says g.O.D.Disk.told g.O.D.Disk.may_leave g.O.D.Disk.moment g.O.D.Disk.left_since (g.O.Disks.at_path c.args.disks.now c.args.path.now) _ (g.O.Disks.at_path c.back.new.self c.args.path.now) c.in-Ok.disk c.session_on-disk.result.0 (stands_as g.O.D.Disk.told g.O.D.Disk.may_leave g.O.D.Disk.moment g.O.D.Disk.left_since g.O.Disks.handed g.met.O.Disks.handed_tells g.met.O.Disks.handed_leaves g.met.O.Disks.handed_moment (g.O.Disks.at_path c.args.disks.now c.args.path.now) c.in-Ok.disk c.in-Ok.ensures.given) c.in-Ok.ensures.taken c.back.ensures.stands
    (DisksFell (g.O.Disks.refuses c.args.disks.now c.args.path.now) g.O.D.Disk.faults (g.O.Disks.at_path c.back.new.self c.args.path.now) (g.O.Disks.faults c.args.disks.now) (g.O.Disks.faults c.back.new.self))
    (RoseBy (g.O.Disks.faults c.args.disks.now) (g.O.Disks.faults c.back.new.self)) _ _ (g.O.D.Disk.faults c.session_on-disk.result.0) _ _ _ _ _ _ _ _ c.in-Ok-held.end _ c.status_of.result
    (of_ok _ _ _ _ c.in-Ok-held.is c.session_on-disk.ensures.ran) c.status_of.ensures (λ count counted. rose_there _ _ _ _ count c.in-Ok.ensures.cause.stays c.back.ensures.faults counted)
    (search rules) (search rules) (λ none. c.back.ensures.level none ∙ c.in-Ok.ensures.cause.stays)

pub returns-in-Err-clause-replies : goal.returns-in-Err-clause-replies
returns-in-Err-clause-replies g c b w e f =
    let reason_is = of_err _ _ _ _ c.in-Err.is c.session_on-disk.ensures.reason in
    let stands_is = of_err _ _ _ _ c.in-Err.is c.session_on-disk.ensures.stands in
    let spared_is = of_err _ _ _ _ c.in-Err.is c.session_on-disk.ensures.spared in
    let unspoiled_is = of_err _ _ _ _ c.in-Err.is c.session_on-disk.ensures.unspoiled in
    let unwritten_is = of_err _ _ _ _ c.in-Err.is c.session_on-disk.ensures.unwritten in
    let cause_is = of_err _ _ _ _ c.in-Err.is c.session_on-disk.ensures.cause in
    let level_is = of_err _ _ _ _ c.in-Err.is c.session_on-disk.ensures.level in
    let untold_is = of_err _ _ _ _ c.in-Err.is c.session_on-disk.ensures.untold in
    let unread_is = of_err _ _ _ _ c.in-Err.is c.session_on-disk.ensures.unread in
    let k = some_readings [] (g.C.Clock.ahead c.args.clock.now) _ refl in
    let told = rw untold_is at c.refuse-in-Err.ensures.told in
    let x = refused_there g.O.D.Disk.told g.O.D.Disk.may_leave g.O.D.Disk.moment g.O.D.Disk.left_since (g.O.Disks.at_path c.args.disks.now c.args.path.now) _ (g.O.Disks.at_path c.back.new.self c.args.path.now) c.in-Ok.disk c.session_on-disk.result.0 (stands_as g.O.D.Disk.told g.O.D.Disk.may_leave g.O.D.Disk.moment g.O.D.Disk.left_since g.O.Disks.handed g.met.O.Disks.handed_tells g.met.O.Disks.handed_leaves g.met.O.Disks.handed_moment (g.O.Disks.at_path c.args.disks.now c.args.path.now) c.in-Ok.disk c.in-Ok.ensures.given) c.in-Ok.ensures.taken c.back.ensures.stands
    (DisksFell (g.O.Disks.refuses c.args.disks.now c.args.path.now) g.O.D.Disk.faults (g.O.Disks.at_path c.back.new.self c.args.path.now) (g.O.Disks.faults c.args.disks.now) (g.O.Disks.faults c.back.new.self)) (g.O.Disks.faults c.back.new.self ≡ g.O.Disks.faults c.args.disks.now) c.in-Err.why c.refuse-in-Err.result _ _ _ _ w
    reason_is stands_is spared_is unspoiled_is unwritten_is
    (λ is. disk_fell _ g.O.D.Disk.faults (g.O.Disks.at_path c.args.disks.now c.args.path.now) _ (g.O.Disks.at_path c.back.new.self c.args.path.now) c.session_on-disk.result.0 _ _ _ _ c.in-Ok.ensures.taken c.back.ensures.stands refl c.in-Ok.ensures.cause.stays c.back.ensures.faults (rose_first 0 _ refl (cause_is is)))
    (λ other. c.back.ensures.level (level_is other) ∙ c.in-Ok.ensures.cause.stays) c.refuse-in-Err.ensures.ends told f in
    (k.0, k.1, x.0, x.1, inr (x.2, unread_is))

-- the disks refused the path
pub returns-in_default-clause-replies : goal.returns-in_default-clause-replies
returns-in_default-clause-replies g c b w e f =
    let laws = g.met.O.D.Disk g.world.𝓛 g.world.𝓜 g.world.𝓡 ((λ s x. x), (λ x. x), (λ x. x), λ x. x) in
    let k = some_readings [] (g.C.Clock.ahead c.args.clock.now) _ refl in
    let x = never_opened g.O.D.Disk.told g.O.D.Disk.may_leave g.O.D.Disk.moment g.O.D.Disk.left_since laws.only_now (g.O.Disks.at_path c.args.disks.now c.args.path.now) (g.O.Disks.at_path c.open.new.self c.args.path.now) c.in_default.ensures.stays
    (DisksFell (g.O.Disks.refuses c.args.disks.now c.args.path.now) g.O.D.Disk.faults (g.O.Disks.at_path c.open.new.self c.args.path.now) (g.O.Disks.faults c.args.disks.now) (g.O.Disks.faults c.open.new.self)) (g.O.Disks.faults c.open.new.self ≡ g.O.Disks.faults c.args.disks.now) c.refuse.result _ _ _ _ w
    (record { rose = c.in_default.ensures.cause.failed; cause = inl c.in_default.ensures.refused }) c.refuse.ensures.ends c.refuse.ensures.told f in
    (k.0, k.1, x.0, x.1, inr (x.2, (refl, refl)))
