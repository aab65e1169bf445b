use Rattle.std.proofs.Common.{sym, ◌∙◌}
use Rattle.cat_core.proofs.Swept.{none_swept}
use Rattle.cat_core.proofs.replay.Replay.run.Goals as goal

pub returns-then-not-has_room-clause-runs : goal.returns-then-not-has_room-clause-runs
returns-then-not-has_room-clause-runs c =
    none_swept c.args.self.now.ledger c.args.entry c.in-Sweep.sweep c.in-Sweep.is (sym (rw c.catalogue.ensures at c.has_room.ensures) ∙ c.if-not-has_room.true)
