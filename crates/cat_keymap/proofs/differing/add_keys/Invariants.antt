use Rattle.std.proofs.Common.{◌≡◌, ◌++◌, length}
use Rattle.cat_model.specs.Changed.{keys_of}
use Rattle.cat_keymap.proofs.differing.add_keys.Given as goal

abbrev pub invariant-loop-key : goal.invariant-loop-key
invariant-loop-key l = l.out ++ keys_of l.left ≡ l.fn.out ++ keys_of l.fn.left

abbrev pub decreases-loop-key : goal.decreases-loop-key
decreases-loop-key l = length l.left
