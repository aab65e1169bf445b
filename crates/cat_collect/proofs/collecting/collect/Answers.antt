use Rattle.cat_collect.proofs.Told.{comes_ready, resolved_logged}
use Rattle.cat_collect.proofs.collecting.collect.Goals as goal

pub collect_at-requires-clause-logged : goal.collect_at-requires-clause-logged
collect_at-requires-clause-logged g c κs within = resolved_logged c.from_micros-moment.result c.args.policy.now c.in-Ok.policy c.requires.counts c.in-Ok.ensures

pub returns-in-Ok-clause-ready : goal.returns-in-Ok-clause-ready
returns-in-Ok-clause-ready g c = comes_ready c.args.desk.now c.in-Ok.policy c.from_micros-moment.result c.args.pass.now c.collect_at.new.pass c.collect_at.result c.requires.ready c.collect_at.ensures.kept c.collect_at.ensures.legal c.collect_at.ensures.comes
