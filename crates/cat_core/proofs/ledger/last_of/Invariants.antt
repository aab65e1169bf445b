use Rattle.std.proofs.Common.{◌≡◌, drop}
use Rattle.cat_model.specs.Resuming.{last_draft}
use Rattle.cat_core.proofs.ledger.last_of.Given as goal

abbrev pub invariant-loop-entry : goal.invariant-loop-entry
invariant-loop-entry l = last_draft l.last (drop l.entry-index l.entries) ≡ last_draft l.start l.entries
