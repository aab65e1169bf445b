-- What a caller sees of a request.
use Rattle.std.specs.Prelude.{ℕ, List, map, take, slice_range}
use Rattle.httparse.specs.Spans.{span_bytes, header_bytes}
use Rattle.httparse.specs.declared.spans.HeaderSpan.{HeaderSpan}
use Rattle.httparse.specs.declared.spans.RequestSpans.{RequestSpans}

-- a name and a value
abbrev pub Pair : Type 0
Pair = List ℕ × List ℕ

-- a request, without where it lies in memory
pub record Message : Type 0 where
  pub method : List ℕ
  pub target : List ℕ
  pub minor : ℕ
  pub fields : List Pair
  pub body : List ℕ

-- the request read last, and the bytes that were read past it
pub record Buffered : Type 0 where
  pub message : Message
  pub unread : List ℕ

-- the request whose head the spans show, and whose body ends at stop
abbrev pub message_at : List ℕ → List HeaderSpan → RequestSpans → ℕ → Message
message_at bytes headers head stop = record {
  method = span_bytes bytes head.method;
  target = span_bytes bytes head.path;
  minor = head.version;
  fields = map (header_bytes bytes) (take head.headers headers);
  body = slice_range bytes head.len stop;
}
