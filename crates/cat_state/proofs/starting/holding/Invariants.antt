use Rattle.std.proofs.Common.{◌≡◌, ◌≤◌, ◌++◌, length, reverse}
use Rattle.std.specs.Vec.Iter.{into_iter_items}
use Rattle.cat_state.proofs.starting.holding.Given as goal

abbrev pub invariant-loop-hash : goal.invariant-loop-hash
invariant-loop-hash l = record {
  all : reverse (into_iter_items l.hash-iterator) ++ l.batch.list ≡ reverse l.fn.contents.items;
  room : length (into_iter_items l.hash-iterator) ≤ l.batch.spare;
}
