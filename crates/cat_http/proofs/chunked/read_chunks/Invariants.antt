use Rattle.std.proofs.Common.{◌≡◌, ◌+◌, ◌-◌, ◌≤◌, length, take}
use Rattle.std.specs.Prelude.{slice_range}
use Rattle.cat_http.specs.ChunkedRead.{HoldsChunks, StandsBehindOf}
use Rattle.cat_http.proofs.chunked.read_chunks.Given as goal

abbrev pub invariant-chunks : goal.invariant-chunks
invariant-chunks g l = record {
  order : l.start + l.kept ≤ l.at;
  before : l.at ≤ l.end;
  within : l.end ≤ length l.bytes;
  len : length l.bytes ≡ length l.fn.bytes;
  limit : l.at ≤ l.limit;
  small : l.kept ≤ 1048576;
  front : take l.start l.bytes ≡ take l.start l.fn.bytes;
  faults : g.S.Source.faults l.source ≡ g.S.Source.faults l.fn.source;
  waits : HoldsChunks (slice_range l.fn.bytes l.start l.fn.end) → (l.source ≡ l.fn.source) × HoldsChunks (slice_range l.bytes l.at l.end);
  stream : StandsBehindOf (g.S.Source.left l.fn.source) (g.S.Source.left l.source) (slice_range l.fn.bytes l.start l.fn.end) (slice_range l.bytes l.start (l.start + l.kept)) (slice_range l.bytes l.at l.end) (l.at - l.start);
}

abbrev pub decreases-chunks : goal.decreases-chunks
decreases-chunks g l = length l.bytes - l.at
