use Rattle.std.proofs.Common.{◌∙◌}
use Rattle.cat_cli.proofs.Opened.{journal_spared}
use Rattle.cat_cli.proofs.migrating.renew.Goals as goal

pub returns-in-Err-clause-unwritten : goal.returns-in-Err-clause-unwritten
returns-in-Err-clause-unwritten g c other = c.in-Err.ensures.unwritten (journal_spared c.in-Err.fault (λ is. other (c.from.ensures ∙ is)))
