use Rattle.std.proofs.Common.{◌≡◌, length}
use Rattle.cat_frames.specs.Standing.{has_main}
use Rattle.cat_state.proofs.starting.has_main.Given as goal

abbrev pub invariant-loop-reference : goal.invariant-loop-reference
invariant-loop-reference l = has_main l.rest ≡ has_main l.references

abbrev pub decreases-loop-reference : goal.decreases-loop-reference
decreases-loop-reference l = length l.rest
