use Rattle.std.proofs.Common.{◌≡◌, ◌++◌}
use Rattle.cat_state.proofs.merging.listed.Given as goal

abbrev pub invariant-loop-key : goal.invariant-loop-key
invariant-loop-key l = l.list ++ l.key-iterator ≡ (l.fn.keys).keys
