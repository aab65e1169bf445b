use Rattle.std.proofs.Common.{drop}
use Rattle.cat_mark.proofs.Marking.{IsUnder}
use Rattle.cat_mark.proofs.hashes.Hashes.add_all.Given as goal

abbrev pub invariant-loop-hash : goal.invariant-loop-hash
invariant-loop-hash l = IsUnder l.fn.self l.self (drop l.hash-index l.list) l.list
