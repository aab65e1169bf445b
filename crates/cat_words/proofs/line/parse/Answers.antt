use Rattle.cat_words.proofs.Parsing.{fails, rows, taken}
use Rattle.cat_words.proofs.line.parse.Goals as goal

pub returns-clause-rows : goal.returns-clause-rows
returns-clause-rows c = rows _ c.in_ok-command.ensures _ c.try_get_matches_from.result c.try_get_matches_from.ensures.matches

pub returns-clause-taken : goal.returns-clause-taken
returns-clause-taken c = taken _ c.in_ok-command.ensures _ c.try_get_matches_from.result c.try_get_matches_from.ensures.kinds

pub returns-clause-fails : goal.returns-clause-fails
returns-clause-fails c = fails _ c.in_ok-command.ensures _ c.try_get_matches_from.result c.try_get_matches_from.ensures.kinds
