-- What a buffer shows, and what is true of its fields.
use Rattle.std.specs.Prelude.{◌≡◌, ◌+◌, ◌≤◌, take, length, slice_range, vec_capacity}
use Rattle.httparse.specs.Spans.{IsRequestWithin}
use Rattle.cat_http.specs.Message.{Buffered, message_at}
use Rattle.cat_http.specs.Window.{window}
use Rattle.cat_http.specs.declared.buffer.Buffer.TheInside.{Inside}

abbrev pub held : Inside → Buffered
held b = record {
  message = message_at (window b.bytes.items b.base) b.headers.items b.head b.stop;
  unread = slice_range (window b.bytes.items b.base) b.start b.end;
}

pub record IsBuffer (b : Inside) : Type 0 where
  pub room : 131072 ≤ length b.bytes.items
  pub capacity : 2179074 ≤ vec_capacity b.bytes
  pub base : b.base ≤ 65536
  pub slots : length b.headers.items ≡ 64
  pub head : IsRequestWithin (take b.stop (window b.bytes.items b.base)) b.headers.items b.head
  pub stop : b.stop ≤ b.start
  pub start : b.start ≤ b.end
  pub within : b.base + b.end ≤ length b.bytes.items
