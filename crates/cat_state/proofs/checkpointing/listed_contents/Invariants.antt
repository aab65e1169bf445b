use Rattle.std.proofs.Common.{◌≡◌, ◌++◌, length}
use Rattle.cat_tables.specs.Sorted.{sorted}
use Rattle.cat_state.proofs.checkpointing.listed_contents.Given as goal

abbrev pub invariant-loop-hash : goal.invariant-loop-hash
invariant-loop-hash l = l.list ++ l.rest ≡ sorted l.contents

abbrev pub decreases-loop-hash : goal.decreases-loop-hash
decreases-loop-hash l = length l.rest
