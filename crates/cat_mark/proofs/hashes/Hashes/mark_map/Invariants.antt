use Rattle.std.proofs.Common.{length}
use Rattle.cat_mark.specs.Marks.{hashes}
use Rattle.cat_mark.proofs.Marking.{IsUnder}
use Rattle.cat_mark.proofs.hashes.Hashes.mark_map.Given as goal

abbrev pub invariant-loop-entry : goal.invariant-loop-entry
invariant-loop-entry l = IsUnder l.fn.self l.self (hashes l.rest) (hashes l.map)

abbrev pub decreases-loop-entry : goal.decreases-loop-entry
decreases-loop-entry l = length l.rest
