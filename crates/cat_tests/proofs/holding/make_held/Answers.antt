use Rattle.std.proofs.Common.{◌∙◌}
use Rattle.cat_work.specs.ReadyLaws.{split_is_ready}
use Rattle.cat_tests.proofs.holding.make_held.Goals as goal

pub call-answer-requires-clause-ready : goal.call-answer-requires-clause-ready
call-answer-requires-clause-ready g c κs within = let kept = c.in-Ok.ensures.kept in split_is_ready c.args.desk.now c.args.pass.now c.split.new.pass c.requires.0 kept.0 kept.1 (kept.2 ∙ c.requires.0.none)
