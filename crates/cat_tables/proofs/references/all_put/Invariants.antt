use Rattle.std.proofs.Common.{◌≡◌, ◌++◌}
use Rattle.std.specs.Vec.Iter.{into_iter_items}
use Rattle.cat_tables.specs.References.{all_named}
use Rattle.cat_tables.proofs.references.all_put.Given as goal

abbrev pub invariant-loop-reference : goal.invariant-loop-reference
invariant-loop-reference l = l.changes.items ++ all_named (into_iter_items l.reference-iterator) ≡ all_named l.fn.list.items
