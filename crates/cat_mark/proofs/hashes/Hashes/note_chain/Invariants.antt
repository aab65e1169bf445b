use Rattle.std.proofs.Common.{◌≡◌, ◌≤◌, ◌+◌, Some, true, length}
use Rattle.cat_model.specs.Chain.{chain, commit_of}
use Rattle.cat_model.specs.Cutoffs.{keeps}
use Rattle.cat_mark.specs.Walked.{AreMarked, AreWalked, live_on}
use Rattle.cat_mark.proofs.hashes.Hashes.note_chain.Given as goal

abbrev pub invariant-loop-at : goal.invariant-loop-at
invariant-loop-at l = record {
  found : commit_of l.graph l.at ≡ Some l.commit;
  kept : keeps l.cutoff l.index l.commit.time ≡ true;
  within : l.index + length (chain l.graph l.at) ≤ length l.graph;
  marked : AreMarked l.self (live_on l.graph l.cutoff l.index l.at);
  walked : AreWalked l.graph l.self l.walked;
}

abbrev pub decreases-loop-at : goal.decreases-loop-at
decreases-loop-at l = length (chain l.graph l.at)
