use Rattle.std.proofs.Common.{◌≡◌, ◌++◌, length}
use Rattle.cat_model.specs.Maps.{IsMap}
use Rattle.cat_keymap.specs.Walking.{walk}
use Rattle.cat_keymap.proofs.differing.walked.Given as goal

abbrev pub invariant-loop-key : goal.invariant-loop-key
invariant-loop-key l = record { order : IsMap l.left; whole : l.out ++ walk l.rest l.left ≡ walk l.fn.a l.fn.b }

abbrev pub decreases-loop-key : goal.decreases-loop-key
decreases-loop-key l = length l.rest
