use Rattle.std.proofs.Common.{inl, inr}
use Rattle.cat_work.proofs.Turning.{pushed}
use Rattle.cat_work.proofs.attempts.attempt.Goals as goal

pub returns-in_default-clause-tried : goal.returns-in_default-clause-tried
returns-in_default-clause-tried g c = let x = c.give_up.ensures.dropped in (x.0, x.1, x.2, inr (c.out_of_memory.ensures, x.3))

pub returns-in-Refused-clause-tried : goal.returns-in-Refused-clause-tried
returns-in-Refused-clause-tried g c = let x = c.in-Refused.ensures.settled in (x.0, x.1, x.2, inl (c.in-Ok.built, c.in-Ok.ensures, x.3))

pub returns-clause-tried : goal.returns-clause-tried
returns-clause-tried g c = let x = c.in-Moved.ensures.settled in
    let pairs = pushed c.args.trying.pairs.items c.push.new.self.items c.place.result c.in-Moved.view.place c.head_in-head.result c.in-Ok-push.ensures.items c.place.ensures in
    (x.0, x.1, x.2, record { built = c.in-Ok.built; is_built = c.in-Ok.ensures; moved = x.3.0; head = c.head_in-head.result; pairs_are = pairs; has = c.head_in-head.ensures }, c.push.ensures.capacity)
