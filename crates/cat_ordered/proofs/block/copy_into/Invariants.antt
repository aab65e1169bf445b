use Rattle.std.proofs.Common.{◌≡◌, ◌++◌, take}
use Rattle.cat_ordered.proofs.block.copy_into.Given as goal

abbrev pub invariant-loop-pair : goal.invariant-loop-pair
invariant-loop-pair g l = l.out.items ≡ l.fn.out.items ++ take l.pair-index l.pairs
