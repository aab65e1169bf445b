use Rattle.std.proofs.Common.{arith}
use Rattle.cat_http.proofs.StreamLemmas.{take_written, stream_grows}
use Rattle.cat_http.proofs.fill.fill.Goals as goal

pub returns-in-Ok-clause-stream : goal.returns-in-Ok-clause-stream
returns-in-Ok-clause-stream g c =
    stream_grows _ _ _ _ _ (take_written c.args.end.now c.in-Ok.count _ c.args.bytes.now c.read.new.into (omega arith) (omega (arith, c.in-Ok.ensures.bound))) c.in-Ok.ensures.bytes.0
