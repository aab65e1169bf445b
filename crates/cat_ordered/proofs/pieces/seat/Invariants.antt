use Rattle.std.proofs.Common.{◌≡◌, ◌⊎◌, ◌-◌, ◌*◌, ◌^◌, ◌<◌, ◌≤◌, length, drop, true, false}
use Rattle.std.specs.List.{flat_map}
use Rattle.cat_ordered.specs.Maps.{begins_by}
use Rattle.cat_ordered.specs.Shared.{values}
use Rattle.cat_ordered.proofs.pieces.seat.Given as goal

abbrev pub invariant-loop-high : goal.invariant-loop-high
invariant-loop-high g l = record {
  order : l.low < l.high;
  within : l.high ≤ length l.pieces;
  before : (l.low ≡ 0) ⊎ (begins_by g.K.Ord.cmp (flat_map g.P.Piece.entries (drop l.low (values l.pieces))) (g.Q.Seek.sought l.key) ≡ true);
  after : begins_by g.K.Ord.cmp (flat_map g.P.Piece.entries (drop l.high (values l.pieces))) (g.Q.Seek.sought l.key) ≡ false;
  spare : 2 ^ l.count * (l.high - l.low - 1) ≤ length l.pieces - 1;
  cost : 2 ^ l.count < 2 * length l.pieces;
}

abbrev pub decreases-loop-high : goal.decreases-loop-high
decreases-loop-high g l = l.high - l.low
