use Rattle.std.specs.Prelude.{is_ok}
use Rattle.cat_http.proofs.WindowLemmas.{grown}
use Rattle.cat_http.proofs.buffer.widen.Goals as goal

pub returns-clause-front : goal.returns-clause-front
returns-clause-front c = grown (is_ok c.resize.result) c.args.bytes.now.items c.resize.new.self.items _ _ c.resize.ensures.items c.requires.few
