use Rattle.std.proofs.Common.{◌≡◌, ◌-◌, ◌≤◌, length, take}
use Rattle.std.specs.Prelude.{slice_range}
use Rattle.cat_http.specs.ChunkedRead.{HoldsLine}
use Rattle.cat_http.specs.Streams.{KeepsStream}
use Rattle.cat_http.proofs.size_line.read_size_line.Given as goal

abbrev pub invariant-reads : goal.invariant-reads
invariant-reads g l = record {
  within : l.end ≤ length l.bytes;
  len : length l.bytes ≡ length l.fn.bytes;
  grows : l.fn.end ≤ l.end;
  faults : g.S.Source.faults l.source ≡ g.S.Source.faults l.fn.source;
  front : take l.fn.end l.bytes ≡ take l.fn.end l.fn.bytes;
  waits : HoldsLine (slice_range l.fn.bytes l.at l.fn.end) → (l.source ≡ l.fn.source) × (l.end ≡ l.fn.end) × (l.bytes ≡ l.fn.bytes);
  stream : KeepsStream (g.S.Source.left l.fn.source) (g.S.Source.left l.source) (take l.fn.end l.fn.bytes) (take l.end l.bytes);
}

abbrev pub decreases-reads : goal.decreases-reads
decreases-reads g l = length l.bytes - l.end
