use Rattle.std.proofs.Common.{drop}
use Rattle.std.specs.List.{flat_map}
use Rattle.cat_model.specs.Cutoffs.{live_from}
use Rattle.cat_mark.specs.Walked.{AreMarked, AreWalked}
use Rattle.cat_mark.proofs.hashes.Hashes.note_heads.Given as goal

abbrev pub invariant-loop-head : goal.invariant-loop-head
invariant-loop-head l = record {
  marked : AreMarked l.self (flat_map (λ x. live_from l.graph x.1 x.0) (drop l.head-index l.heads));
  walked : AreWalked l.graph l.self l.walked;
}
