use Rattle.std.proofs.Common.{subst}
use Rattle.cat_decisions.specs.Settling.{HasRoom}
use Rattle.cat_decisions.proofs.Settled.{has_room}
use Rattle.cat_decisions.proofs.settling.settle.Goals as goal

pub unless_conflicts-requires-clause-room : goal.unless_conflicts-requires-clause-room
unless_conflicts-requires-clause-room c = subst (HasRoom c.args.catalogue.now c.args.branch.now.head) c.as_slice.ensures.value c.in-Ok.ensures.room

pub returns-in-Ok : goal.returns-in-Ok
returns-in-Ok c =
    record { step = has_room c.args.catalogue.now c.args.draft c.args.branch.now c.args.opened c.args.moment (c.args.draft).command c.unless_conflicts.result (rw c.as_slice.ensures.value at c.in-Ok.ensures.test) c.unless_conflicts.ensures.step }
