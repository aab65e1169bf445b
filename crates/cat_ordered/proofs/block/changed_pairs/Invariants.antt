use Rattle.std.proofs.Common.{◌≡◌, ◌++◌, drop}
use Rattle.cat_ordered.specs.Maps.{IsMap, after_changes}
use Rattle.cat_ordered.proofs.block.changed_pairs.Given as goal

abbrev pub invariant-loop-change : goal.invariant-loop-change
invariant-loop-change g l = record {
  order : IsMap g.K.Ord.cmp l.left;
  whole : l.out.items ++ after_changes g.K.Ord.cmp (drop l.change-index l.changes) l.left ≡ after_changes g.K.Ord.cmp l.changes l.pairs;
}
