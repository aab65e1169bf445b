use Rattle.std.proofs.Common.{◌≡◌, ◌++◌, length}
use Rattle.cat_state.proofs.checkpointing.listed_references.Given as goal

abbrev pub invariant-loop-reference : goal.invariant-loop-reference
invariant-loop-reference l = l.list ++ l.rest ≡ l.references

abbrev pub decreases-loop-reference : goal.decreases-loop-reference
decreases-loop-reference l = length l.rest
