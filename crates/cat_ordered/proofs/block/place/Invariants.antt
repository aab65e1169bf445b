use Rattle.std.proofs.Common.{◌-◌, ◌*◌, ◌^◌, ◌<◌, ◌≤◌, length}
use Rattle.cat_ordered.specs.Places.{place_of}
use Rattle.cat_ordered.proofs.block.place.Given as goal

abbrev pub invariant-loop-low : goal.invariant-loop-low
invariant-loop-low g l = record {
  order : l.low ≤ l.high;
  within : l.high ≤ length l.pairs;
  from : l.low ≤ place_of g.K.Ord.cmp l.pairs (g.Q.Seek.sought l.key);
  to : place_of g.K.Ord.cmp l.pairs (g.Q.Seek.sought l.key) ≤ l.high;
  spare : 2 ^ l.count * (l.high - l.low) ≤ length l.pairs;
  cost : 0 < length l.pairs → 2 ^ l.count ≤ 2 * length l.pairs;
}

abbrev pub decreases-loop-low : goal.decreases-loop-low
decreases-loop-low g l = l.high - l.low
