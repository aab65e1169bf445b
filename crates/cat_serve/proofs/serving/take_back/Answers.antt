use Rattle.cat_work.specs.ReadyLaws.{join_is_ready}
use Rattle.cat_serve.proofs.Lending.{joined_remembers}
use Rattle.cat_serve.proofs.Workers.{counts_up}
use Rattle.cat_serve.proofs.serving.take_back.Goals as goal

pub returns-clause-ready : goal.returns-clause-ready
returns-clause-ready g c = join_is_ready c.args.desk.now c.args.pass.now _ _ c.requires.ready.0 c.requires.ready.1 c.join.ensures.free.0 c.join.ensures.left.0 c.join.ensures.seen.0 c.join.ensures.whole.0

pub returns-clause-grows : goal.returns-clause-grows
returns-clause-grows g c = let j = c.join.ensures in ((j.whole.0, j.grows.0), (j.whole.1, j.grows.1))

pub returns-clause-carries : goal.returns-clause-carries
returns-clause-carries g c = let j = c.join.ensures in (j.carries.0, j.carries.1)

pub returns-clause-remembers : goal.returns-clause-remembers
returns-clause-remembers g c p one two =
    joined_remembers p c.args.pass.now _ _ one two c.join.ensures.seen.0 c.join.ensures.seen.1 c.join.ensures.mark.0 c.join.ensures.mark.1 c.join.ensures.left.1

pub returns-clause-counts : goal.returns-clause-counts
returns-clause-counts g c counts = counts_up c.args.worker.failed _ _ _ c.rejoin.ensures.faults counts
