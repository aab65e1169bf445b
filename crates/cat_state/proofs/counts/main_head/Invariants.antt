use Rattle.std.proofs.Common.{◌≡◌, length}
use Rattle.cat_state.specs.Counting.{main_head}
use Rattle.cat_state.proofs.counts.main_head.Given as goal

abbrev pub invariant-loop-reference : goal.invariant-loop-reference
invariant-loop-reference l = main_head l.rest ≡ main_head l.references

abbrev pub decreases-loop-reference : goal.decreases-loop-reference
decreases-loop-reference l = length l.rest
