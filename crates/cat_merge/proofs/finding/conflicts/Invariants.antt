use Rattle.std.proofs.Common.{◌≡◌, take}
use Rattle.cat_model.specs.Plan.{conflicts_of}
use Rattle.cat_merge.proofs.finding.conflicts.Given as goal

abbrev pub invariant-loop-detail : goal.invariant-loop-detail
invariant-loop-detail l = l.out ≡ conflicts_of (take l.detail-index l.details)
