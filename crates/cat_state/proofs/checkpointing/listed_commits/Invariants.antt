use Rattle.std.proofs.Common.{◌≡◌, ◌++◌, drop, map, reverse}
use Rattle.cat_state.proofs.checkpointing.listed_commits.Given as goal

abbrev pub invariant-loop-hash : goal.invariant-loop-hash
invariant-loop-hash l = l.list ++ map (λ x. (x.0.now, x.1.now)) (drop l.hash-index l.hash-items) ≡ reverse l.commits
