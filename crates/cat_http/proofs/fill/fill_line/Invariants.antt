use Rattle.std.proofs.Common.{◌≡◌, ◌-◌, ◌≤◌, false, length, take}
use Rattle.std.specs.Prelude.{slice_range}
use Rattle.cat_http.specs.Lines.{has_line_feed}
use Rattle.cat_http.specs.Streams.{KeepsStream}
use Rattle.cat_http.proofs.fill.fill_line.Given as goal

abbrev pub invariant-reads : goal.invariant-reads
invariant-reads g l = record {
  within : l.end ≤ length l.bytes;
  len : length l.bytes ≡ length l.fn.bytes;
  grows : l.fn.end ≤ l.end;
  first : l.first ≡ l.fn.end;
  some : l.end ≤ l.limit;
  faults : g.S.Source.faults l.source ≡ g.S.Source.faults l.fn.source;
  front : take l.fn.end l.bytes ≡ take l.fn.end l.fn.bytes;
  quiet : has_line_feed (slice_range l.bytes l.fn.end l.end) ≡ false;
  stream : KeepsStream (g.S.Source.left l.fn.source) (g.S.Source.left l.source) (take l.fn.end l.fn.bytes) (take l.end l.bytes);
}

abbrev pub decreases-reads : goal.decreases-reads
decreases-reads g l = length l.bytes - l.end
