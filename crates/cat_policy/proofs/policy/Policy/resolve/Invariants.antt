use Rattle.std.proofs.Common.{◌≡◌, map, take}
use Rattle.cat_policy.specs.GivenCutoffs.{cutoff_at}
use Rattle.cat_policy.proofs.policy.Policy.resolve.Given as goal

abbrev pub invariant-loop-pattern : goal.invariant-loop-pattern
invariant-loop-pattern l = l.cutoffs ≡ map (λ x. (x.0, cutoff_at l.moment x.1)) (take l.pattern-index l.given)
