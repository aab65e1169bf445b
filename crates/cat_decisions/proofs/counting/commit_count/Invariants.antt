use Rattle.std.proofs.Common.{◌≡◌, ◌+◌, ◌≤◌, drop, length}
use Rattle.cat_decisions.specs.Drafts.{changing}
use Rattle.cat_decisions.proofs.counting.commit_count.Given as goal

abbrev pub invariant-loop-one : goal.invariant-loop-one
invariant-loop-one l = record { left : l.count + length (changing (drop l.one-index l.planned)) ≡ length (changing l.planned); bound : l.count ≤ l.one-index }
