use Rattle.std.proofs.Common.{◌≡◌, arith}
use Rattle.cat_ordered.specs.Places.{place_of}
use Rattle.cat_ordered.proofs.Found.{place_within}
use Rattle.cat_ordered.proofs.ordered_map.OrderedMap.rank.Goals as goal

pub rank-requires-clause-fine : goal.rank-requires-clause-fine
rank-requires-clause-fine g c = rw c.as_slice.ensures.value c.self.invariant.fine

pub rank-requires-clause-map : goal.rank-requires-clause-map
rank-requires-clause-map g c = rw c.as_slice.ensures.value c.self.invariant.map

pub rank-requires-clause-count : goal.rank-requires-clause-count
rank-requires-clause-count g c = rw c.as_slice.ensures.value c.self.invariant.count

pub returns-clause-place : goal.returns-clause-place
returns-clause-place g c = rw (c.as_slice.ensures.value, c.self.view_is) at c.rank.ensures

pub returns-clause-bound : goal.returns-clause-bound
returns-clause-bound g c =
    let place : c.rank.result ≡ place_of g.K.Ord.cmp c.args.self.now c.args.key.now = rw (c.as_slice.ensures.value, c.self.view_is) at c.rank.ensures in
    omega (arith, place, place_within g.K.Ord.cmp g.met.K.Ord.total c.args.self.now c.args.key.now)
