use Rattle.cat_http.proofs.OneWay.{one_reading}
use Rattle.cat_http.proofs.law.one_stream_has_one_reading.Goals as goal

pub returns : goal.returns
returns c = one_reading
