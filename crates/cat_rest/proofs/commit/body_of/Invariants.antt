use Rattle.std.proofs.Common.{◌≡◌, ◌++◌}
use Rattle.std.specs.Vec.Iter.{into_iter_items}
use Rattle.cat_rest.specs.Bodies.{ops_of, contents_of}
use Rattle.cat_rest.proofs.commit.body_of.Given as goal

abbrev pub invariant-loop-one : goal.invariant-loop-one
invariant-loop-one l = record {
  ops_so_far : l.ops ++ ops_of (into_iter_items l.one-iterator) ≡ ops_of l.fn.asked;
  contents_so_far : l.contents ++ contents_of (into_iter_items l.one-iterator) ≡ contents_of l.fn.asked;
}
