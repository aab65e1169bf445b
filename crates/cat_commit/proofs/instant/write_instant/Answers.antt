use Rattle.std.proofs.Common.{◌∙◌, ap}
use Rattle.cat_commit.specs.Instants.{moment_of}
use Rattle.cat_commit.proofs.Dates.{text_is}
use Rattle.cat_commit.proofs.MomentBack.{moment_back}
use Rattle.cat_commit.proofs.instant.write_instant.Goals as goal

pub returns-clause-text : goal.returns-clause-text
returns-clause-text c = c.civil_text.ensures ∙ text_is c.civil_of.result c.args.moment c.civil_of.ensures.civil

pub returns-clause-reads_again : goal.returns-clause-reads_again
returns-clause-reads_again c = ap moment_of (returns-clause-text c) ∙ moment_back c.args.moment c.civil_of.ensures.known
