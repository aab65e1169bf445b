use Rattle.std.proofs.Common.{◌≡◌, drop, find}
use Rattle.cat_model.specs.Cutoffs.{matches}
use Rattle.cat_model.proofs.cutoff.Resolved.cutoff_for.Given as goal

-- the first pattern that matches is among the rest
abbrev pub invariant-loop-pattern : goal.invariant-loop-pattern
invariant-loop-pattern l = find (λ x. matches x.0 l.name) (drop l.pattern-index l.cutoffs) ≡ find (λ x. matches x.0 l.name) l.cutoffs
