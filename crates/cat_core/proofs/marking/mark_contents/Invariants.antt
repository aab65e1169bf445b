use Rattle.std.proofs.Common.{drop}
use Rattle.cat_mark.proofs.Marking.{IsUnder}
use Rattle.cat_core.proofs.marking.mark_contents.Given as goal

abbrev pub invariant-loop-hash : goal.invariant-loop-hash
invariant-loop-hash l = IsUnder l.fn.marks.set l.marks.set (drop l.hash-index l.hashes) l.hashes
