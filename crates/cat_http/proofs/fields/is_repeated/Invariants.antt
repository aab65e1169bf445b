use Rattle.std.proofs.Common.{◌≡◌, false, map, drop}
use Rattle.httparse.specs.Spans.{header_bytes}
use Rattle.cat_http.specs.Fields.{is_repeated}
use Rattle.cat_http.proofs.fields.is_repeated.Given as goal

-- the rest of the fields decides
abbrev pub invariant-loop-header : goal.invariant-loop-header
invariant-loop-header l = is_repeated l.came l.name (map (header_bytes l.bytes) (drop l.header-index l.headers)) ≡ is_repeated false l.name (map (header_bytes l.bytes) l.headers)
