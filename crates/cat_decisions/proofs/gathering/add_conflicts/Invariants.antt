use Rattle.std.proofs.Common.{◌≡◌, ◌++◌, take}
use Rattle.cat_decisions.proofs.gathering.add_conflicts.Given as goal

abbrev pub invariant-loop-conflict : goal.invariant-loop-conflict
invariant-loop-conflict l = l.out ≡ l.fn.out ++ take l.conflict-index l.conflicts
