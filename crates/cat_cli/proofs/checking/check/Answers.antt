use Rattle.std.proofs.Common.{◌≡◌, inl, inr, refl, ◌∙◌}
use Rattle.cat_cli.specs.Journals.{DisksFell}
use Rattle.cat_cli.proofs.Counted.{checks}
use Rattle.cat_cli.proofs.Opened.{disk_fell, rose_first}
use Rattle.cat_cli.proofs.Refused.{never_opened, of_err, of_ok, refused_there}
use Rattle.cat_cli.proofs.Placed.{stands_as}
use Rattle.cat_cli.proofs.checking.check.Goals as goal

pub returns-in-Ok-line-clause-checked : goal.returns-in-Ok-line-clause-checked
returns-in-Ok-line-clause-checked g c =
    let line = of_ok _ _ _ _ c.in-Ok-line.is c.line_on-disk.ensures.line in
    let level = of_ok _ _ _ _ c.in-Ok-line.is c.line_on-disk.ensures.level in
    checks g.O.D.Disk.told g.O.D.Disk.may_leave g.O.D.Disk.moment g.O.D.Disk.left_since (g.O.Disks.at_path c.args.disks.now c.args.path.now) _ (g.O.Disks.at_path c.back.new.self c.args.path.now) c.in-Ok.disk c.line_on-disk.result.0 (stands_as g.O.D.Disk.told g.O.D.Disk.may_leave g.O.D.Disk.moment g.O.D.Disk.left_since g.O.Disks.handed g.met.O.Disks.handed_tells g.met.O.Disks.handed_leaves g.met.O.Disks.handed_moment (g.O.Disks.at_path c.args.disks.now c.args.path.now) c.in-Ok.disk c.in-Ok.ensures.given) c.in-Ok.ensures.taken c.back.ensures.stands
    (DisksFell (g.O.Disks.refuses c.args.disks.now c.args.path.now) g.O.D.Disk.faults (g.O.Disks.at_path c.back.new.self c.args.path.now) (g.O.Disks.faults c.args.disks.now) (g.O.Disks.faults c.back.new.self)) _ (c.back.ensures.level level ∙ c.in-Ok.ensures.cause.stays) c.as_str.result.now line.0 c.tell_line.result _ _ _ _
    line.2 (c.as_str.ensures.value ∙ line.1) c.tell_line.ensures.told

pub returns-in-Err-clause-checked : goal.returns-in-Err-clause-checked
returns-in-Err-clause-checked g c w f =
    let reason_is = of_err _ _ _ _ c.in-Err.is c.line_on-disk.ensures.reason in
    let stands_is = of_err _ _ _ _ c.in-Err.is c.line_on-disk.ensures.stands in
    let spared_is = of_err _ _ _ _ c.in-Err.is c.line_on-disk.ensures.spared in
    let unspoiled_is = of_err _ _ _ _ c.in-Err.is c.line_on-disk.ensures.unspoiled in
    let unwritten_is = of_err _ _ _ _ c.in-Err.is c.line_on-disk.ensures.unwritten in
    let cause_is = of_err _ _ _ _ c.in-Err.is c.line_on-disk.ensures.cause in
    let level_is = of_err _ _ _ _ c.in-Err.is c.line_on-disk.ensures.level in
    let x = refused_there g.O.D.Disk.told g.O.D.Disk.may_leave g.O.D.Disk.moment g.O.D.Disk.left_since (g.O.Disks.at_path c.args.disks.now c.args.path.now) _ (g.O.Disks.at_path c.back.new.self c.args.path.now) c.in-Ok.disk c.line_on-disk.result.0 (stands_as g.O.D.Disk.told g.O.D.Disk.may_leave g.O.D.Disk.moment g.O.D.Disk.left_since g.O.Disks.handed g.met.O.Disks.handed_tells g.met.O.Disks.handed_leaves g.met.O.Disks.handed_moment (g.O.Disks.at_path c.args.disks.now c.args.path.now) c.in-Ok.disk c.in-Ok.ensures.given) c.in-Ok.ensures.taken c.back.ensures.stands
    (DisksFell (g.O.Disks.refuses c.args.disks.now c.args.path.now) g.O.D.Disk.faults (g.O.Disks.at_path c.back.new.self c.args.path.now) (g.O.Disks.faults c.args.disks.now) (g.O.Disks.faults c.back.new.self)) (g.O.Disks.faults c.back.new.self ≡ g.O.Disks.faults c.args.disks.now) c.in-Err.why c.refuse-in-Err.result _ _ _ _ w
    reason_is stands_is spared_is unspoiled_is unwritten_is
    (λ is. disk_fell _ g.O.D.Disk.faults (g.O.Disks.at_path c.args.disks.now c.args.path.now) _ (g.O.Disks.at_path c.back.new.self c.args.path.now) c.line_on-disk.result.0 _ _ _ _ c.in-Ok.ensures.taken c.back.ensures.stands refl c.in-Ok.ensures.cause.stays c.back.ensures.faults (rose_first 0 _ refl (cause_is is)))
    (λ other. c.back.ensures.level (level_is other) ∙ c.in-Ok.ensures.cause.stays) c.refuse-in-Err.ensures.ends c.refuse-in-Err.ensures.told f in
    (x.0, x.1, inr x.2)

pub returns-in_default-clause-checked : goal.returns-in_default-clause-checked
returns-in_default-clause-checked g c w f =
    let laws = g.met.O.D.Disk g.world.𝓛 g.world.𝓜 g.world.𝓡 ((λ s x. x), (λ x. x), (λ x. x), λ x. x) in
    let x = never_opened g.O.D.Disk.told g.O.D.Disk.may_leave g.O.D.Disk.moment g.O.D.Disk.left_since laws.only_now (g.O.Disks.at_path c.args.disks.now c.args.path.now) (g.O.Disks.at_path c.open.new.self c.args.path.now) c.in_default.ensures.stays
    (DisksFell (g.O.Disks.refuses c.args.disks.now c.args.path.now) g.O.D.Disk.faults (g.O.Disks.at_path c.open.new.self c.args.path.now) (g.O.Disks.faults c.args.disks.now) (g.O.Disks.faults c.open.new.self)) (g.O.Disks.faults c.open.new.self ≡ g.O.Disks.faults c.args.disks.now) c.refuse.result _ _ _ _ w
    (record { rose = c.in_default.ensures.cause.failed; cause = inl c.in_default.ensures.refused }) c.refuse.ensures.ends c.refuse.ensures.told f in
    (x.0, x.1, inr x.2)
