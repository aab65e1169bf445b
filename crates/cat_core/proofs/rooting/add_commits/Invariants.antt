use Rattle.std.proofs.Common.{◌≡◌, ◌++◌, map, drop}
use Rattle.cat_core.specs.Sweeps.{alone}
use Rattle.cat_core.proofs.rooting.add_commits.Given as goal

abbrev pub invariant-loop-commit : goal.invariant-loop-commit
invariant-loop-commit l = l.heads.items ++ map alone (drop l.commit-index l.commits) ≡ l.fn.heads.items ++ map alone l.commits
