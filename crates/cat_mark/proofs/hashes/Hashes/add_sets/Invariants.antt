use Rattle.std.proofs.Common.{◌*◌, drop}
use Rattle.cat_mark.specs.Marks.{live_from_all}
use Rattle.cat_mark.specs.Walked.{AreWalked}
use Rattle.cat_mark.proofs.Marking.{IsUnder}
use Rattle.cat_mark.proofs.hashes.Hashes.add_sets.Given as goal

abbrev pub invariant-loop-set : goal.invariant-loop-set
invariant-loop-set l = record {
  marked : IsUnder l.fn.self l.self (live_from_all l.graph (drop (l.set-index * l.size) l.heads)) (live_from_all l.graph l.heads);
  walked : AreWalked l.graph l.self l.walked;
}
