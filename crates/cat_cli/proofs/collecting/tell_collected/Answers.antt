use Rattle.std.proofs.Common.{rules}
use Rattle.cat_cli.proofs.GatheredRuns.{limit_told, swept_told}
use Rattle.cat_cli.proofs.collecting.tell_collected.Goals as goal

pub returns-in-Limit-clause-told : goal.returns-in-Limit-clause-told
returns-in-Limit-clause-told g c = limit_told c.args.what _ _ c.end_with_text.result (search rules) (c.end_with_text.ensures.told _ c.limit_line.ensures)

pub returns-in-Swept-clause-told : goal.returns-in-Swept-clause-told
returns-in-Swept-clause-told g c = swept_told c.args.what _ _ _ _ c.end_with_text-in-Swept.result (search rules) (c.end_with_text-in-Swept.ensures.told _ c.swept_line-line.ensures)
