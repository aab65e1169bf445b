use Rattle.std.proofs.Common.{◌≡◌, take}
use Rattle.cat_decisions.specs.Drafts.{all_conflicts_in}
use Rattle.cat_decisions.proofs.gathering.all_conflicts.Given as goal

abbrev pub invariant-loop-one : goal.invariant-loop-one
invariant-loop-one l = l.out ≡ all_conflicts_in (take l.one-index l.planned)
