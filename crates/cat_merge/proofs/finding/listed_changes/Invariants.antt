use Rattle.std.proofs.Common.{◌≡◌, take}
use Rattle.cat_merge.specs.Decisions.{changes}
use Rattle.cat_merge.proofs.finding.listed_changes.Given as goal

abbrev pub invariant-loop-one : goal.invariant-loop-one
invariant-loop-one l = l.out ≡ changes (take l.one-index l.decided)
