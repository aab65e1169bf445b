use Rattle.std.proofs.Common.{drop}
use Rattle.std.specs.List.{flat_map}
use Rattle.cat_model.specs.Cutoffs.{live_from}
use Rattle.cat_mark.specs.Walked.{AreWalked}
use Rattle.cat_mark.proofs.Marking.{IsUnder}
use Rattle.cat_mark.proofs.hashes.Hashes.mark_heads.Given as goal

abbrev pub invariant-loop-head : goal.invariant-loop-head
invariant-loop-head l = record {
  marked : IsUnder l.fn.self l.self (flat_map (λ x. live_from l.graph x.1 x.0) (drop l.head-index l.heads)) (flat_map (λ x. live_from l.graph x.1 x.0) l.heads);
  walked : AreWalked l.graph l.self l.walked;
}
