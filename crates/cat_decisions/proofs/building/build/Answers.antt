use Rattle.cat_decisions.proofs.Found.{call_distinct}
use Rattle.cat_decisions.proofs.building.build.Goals as goal

pub judge_at_head-requires-clause-distinct : goal.judge_at_head-requires-clause-distinct
judge_at_head-requires-clause-distinct c = call_distinct c.args.call.now _ c.in-Commit.given c.as_slice.result.now c.in-Commit.is c.requires.well_made c.requires.given c.as_slice.ensures
