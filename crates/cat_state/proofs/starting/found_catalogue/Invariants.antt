use Rattle.std.proofs.Common.{◌≡◌, [], ◌++◌, reverse}
use Rattle.std.specs.Vec.Iter.{into_iter_items}
use Rattle.cat_state.specs.Starting.{may_be_added}
use Rattle.cat_state.proofs.starting.found_catalogue.Given as goal

abbrev pub invariant-loop-hash : goal.invariant-loop-hash
invariant-loop-hash l = record {
  may : may_be_added l.fn.limits l.founded (into_iter_items l.hash-iterator) ≡ may_be_added l.fn.limits [] l.fn.commits.items;
  all : reverse (into_iter_items l.hash-iterator) ++ l.founded ≡ reverse l.fn.commits.items;
}
