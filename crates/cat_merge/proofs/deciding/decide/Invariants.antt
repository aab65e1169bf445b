use Rattle.std.proofs.Common.{◌≡◌, ◌++◌, map}
use Rattle.std.specs.Vec.Iter.{into_iter_items}
use Rattle.cat_merge.specs.Decisions.{decided_at}
use Rattle.cat_merge.proofs.deciding.decide.Given as goal

abbrev pub invariant-loop-key : goal.invariant-loop-key
invariant-loop-key l = l.out ++ map (decided_at l.base l.source l.target l.modes) (into_iter_items l.key-iterator) ≡ map (decided_at l.base l.source l.target l.modes) l.fn.keys
