use Rattle.std.proofs.Common.{length}
use Rattle.cat_mark.proofs.Unmarked.{IsFound}
use Rattle.cat_mark.proofs.hashes.Hashes.unmarked.Given as goal

abbrev pub invariant-loop-hash : goal.invariant-loop-hash
invariant-loop-hash g l = IsFound l.self l.out.items l.rest l.contents

abbrev pub decreases-loop-hash : goal.decreases-loop-hash
decreases-loop-hash g l = length l.rest
