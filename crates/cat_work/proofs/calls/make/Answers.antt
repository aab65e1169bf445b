use Rattle.cat_work.proofs.Made.{comes_ready}
use Rattle.cat_work.proofs.calls.make.Goals as goal

pub returns-clause-ready : goal.returns-clause-ready
returns-clause-ready g c = comes_ready c.args.desk.now c.args.command.now c.args.pass.now c.make_at.new.pass c.args.attempts _ c.make_at.result c.requires.ready c.make_at.ensures.kept c.make_at.ensures.legal c.make_at.ensures.comes
