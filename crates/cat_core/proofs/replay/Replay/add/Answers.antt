use Rattle.std.proofs.Common.{sym, subst, ◌∙◌}
use Rattle.cat_core.specs.Opening.{ReadsAs}
use Rattle.cat_core.specs.Replays.{replayed_from}
use Rattle.cat_core.proofs.Following.{may_not}
use Rattle.cat_core.proofs.replay.Replay.add.Goals as goal

pub returns-in-Ok-false-clause-adds : goal.returns-in-Ok-false-clause-adds
returns-in-Ok-false-clause-adds c =
    may_not (replayed_from c.args.self.now) c.args.self.now.ledger c.args.self.now.ledger c.args.payload.now c.in-Some.entry (subst (ReadsAs c.args.payload.now) c.in-Some.is c.in_ok-read.ensures) (sym c.in-Ok-false.ensures ∙ c.in-Ok-false.field-0-test)
