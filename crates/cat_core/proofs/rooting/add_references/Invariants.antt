use Rattle.std.proofs.Common.{◌≡◌, ◌++◌, length, map}
use Rattle.cat_core.specs.Sweeps.{head_at}
use Rattle.cat_core.proofs.rooting.add_references.Given as goal

abbrev pub invariant-loop-reference : goal.invariant-loop-reference
invariant-loop-reference l = l.heads.items ++ map (head_at l.policy) l.rest ≡ l.fn.heads.items ++ map (head_at l.policy) l.references

abbrev pub decreases-loop-reference : goal.decreases-loop-reference
decreases-loop-reference l = length l.rest
