use Rattle.std.proofs.Common.{◌≡◌, ◌++◌, map}
use Rattle.std.specs.Vec.Iter.{into_iter_items}
use Rattle.cat_merge.specs.Decisions.{detail}
use Rattle.cat_merge.proofs.finding.details.Given as goal

abbrev pub invariant-loop-one : goal.invariant-loop-one
invariant-loop-one l = l.out ++ map (detail l.target l.after) (into_iter_items l.one-iterator) ≡ map (detail l.target l.after) l.fn.decided
