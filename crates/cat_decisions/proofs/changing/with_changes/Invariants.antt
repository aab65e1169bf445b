use Rattle.std.proofs.Common.{◌≡◌, ◌++◌}
use Rattle.std.specs.Vec.Iter.{into_iter_items}
use Rattle.cat_decisions.specs.Drafts.{changing}
use Rattle.cat_decisions.proofs.changing.with_changes.Given as goal

abbrev pub invariant-loop-one : goal.invariant-loop-one
invariant-loop-one l = l.made.items ++ changing (into_iter_items l.one-iterator) ≡ changing l.fn.planned.items
