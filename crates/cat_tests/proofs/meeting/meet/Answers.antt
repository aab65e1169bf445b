use Rattle.std.proofs.Common.{rules, ◌≡◌, subst}
use Rattle.cat_work.specs.Passes.{IsReady}
use Rattle.cat_tests.proofs.meeting.meet.Goals as goal

pub writes-left-requires-clause-ready : goal.writes-left-requires-clause-ready
writes-left-requires-clause-ready g c κs within =
    let is : c.join_mut.new.f.3.now ≡ c.one-4-1.given.0 = search rules in
    let ready : IsReady c.desk_of-desk.result.0 c.join_mut.new.f.3.now = search rules in
    subst (IsReady c.desk_of-desk.result.0) is ready

pub join-requires : goal.join-requires
join-requires g c =
    let is : c.join_mut.new.g.3.now ≡ c.two-2-1.given.0 = search rules in
    let ready : IsReady c.desk_of-desk.result.0 c.join_mut.new.g.3.now = search rules in
    record { free = (c.writes-left.ensures.ready.free, (subst (IsReady c.desk_of-desk.result.0) is ready).free) }
