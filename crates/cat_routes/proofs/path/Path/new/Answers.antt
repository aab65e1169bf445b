use Rattle.percent_encoding.proofs.PercentLemmas.{IsAscii-percent_encode}
use Rattle.cat_routes.proofs.path.Path.new.Goals as goal

pub invariant_of-result : goal.invariant_of-result
invariant_of-result c = rw (c.in_ok-append_to.ensures.ok, c.new-text.ensures.bytes, c.percent_encode.ensures.text) (IsAscii-percent_encode _ _)
