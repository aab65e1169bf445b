use Rattle.std.proofs.Common.{length, ap, arith}
use Rattle.std.proofs.lemmas.Result.{err_from_is_err_and}
use Rattle.cat_model.specs.Maps.{Map}
use Rattle.cat_decisions.proofs.Room.{room_by}
use Rattle.cat_decisions.proofs.counting.needs_room.Goals as goal

pub returns-in_err-needs_planned_room-clause-test : goal.returns-in_err-needs_planned_room-clause-test
returns-in_err-needs_planned_room-clause-test c =
    let p = err_from_is_err_and c.from_residual-in_err-needs_planned_room.result c.from_residual-in_err-needs_planned_room.ensures.1 in
    rw (p.1, p.2) (room_by c.args.catalogue.now _ _ c.args.planned.now _ _ _ c.in_ok-head.ensures c.commit_count.ensures.value c.in_ok-sets.ensures c.in_err-needs_planned_room.ensures.test)

pub returns-clause-test : goal.returns-clause-test
returns-clause-test c =
    room_by c.args.catalogue.now _ _ c.args.planned.now _ _ _ c.in_ok-head.ensures c.commit_count.ensures.value c.in_ok-sets.ensures c.in_ok-needs_planned_room.ensures.test

pub returns-clause-room : goal.returns-clause-room
returns-clause-room c =
    let room = c.in_ok-needs_planned_room.ensures in
    record {
      place = room.place;
      commits = omega (arith, room.commits, c.commit_count.ensures.value);
      log = room.log;
      most = omega (arith, room.most, c.commit_count.ensures.value);
      keys = omega (arith, room.keys, ap (λ (m : Map). length m) c.in_ok-head.ensures, c.in_ok-sets.ensures);
    }
