use Rattle.std.proofs.Common.{◌≡◌}
use Rattle.std.specs.Vec.Iter.{into_iter_items}
use Rattle.cat_rest.specs.Queries.{keys_of}
use Rattle.cat_rest.proofs.Keys.{with_front}
use Rattle.cat_rest.proofs.query.keys_of.Given as goal

abbrev pub invariant-loop-text : goal.invariant-loop-text
invariant-loop-text l = with_front l.keys (keys_of (into_iter_items l.text-iterator)) ≡ keys_of l.fn.texts
