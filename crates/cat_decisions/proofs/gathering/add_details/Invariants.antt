use Rattle.std.proofs.Common.{◌≡◌, ◌++◌, take}
use Rattle.cat_decisions.proofs.gathering.add_details.Given as goal

abbrev pub invariant-loop-detail : goal.invariant-loop-detail
invariant-loop-detail l = l.out ≡ l.fn.out ++ take l.detail-index l.details
