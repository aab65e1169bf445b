use Rattle.std.proofs.Common.{drop}
use Rattle.cat_mark.specs.Marks.{at_keys}
use Rattle.cat_mark.proofs.Marking.{IsUnder}
use Rattle.cat_mark.proofs.hashes.Hashes.mark_keys.Given as goal

abbrev pub invariant-loop-change : goal.invariant-loop-change
invariant-loop-change l = IsUnder l.fn.self l.self (at_keys l.map (drop l.change-index l.changes)) (at_keys l.map l.changes)
