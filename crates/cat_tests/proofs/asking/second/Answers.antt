use Rattle.std.proofs.Common.{◌∙◌}
use Rattle.cat_work.specs.ReadyLaws.{split_is_ready}
use Rattle.cat_tests.proofs.asking.second.Goals as goal

pub returns-clause-first : goal.returns-clause-first
returns-clause-first g c = let kept = c.in-Ok.ensures.kept in split_is_ready c.args.desk.now c.args.first.now c.split.new.pass c.requires.ready kept.0 kept.1 (kept.2 ∙ c.requires.ready.none)

pub returns-clause-second : goal.returns-clause-second
returns-clause-second g c = let other = c.in-Ok.ensures.other in split_is_ready c.args.desk.now c.args.first.now c.in-Ok.second c.requires.ready other.0 other.1 other.2
