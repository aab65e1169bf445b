use Rattle.cat_ordered.proofs.Steps.{none_first, one_first}
use Rattle.cat_ordered.proofs.walk.first_pair.Goals as goal

pub returns-in-empty : goal.returns-in-empty
returns-in-empty g c = none_first c.args.pairs.now c.in-empty.len_below

pub returns-in-len1-up : goal.returns-in-len1-up
returns-in-len1-up g c = one_first c.args.pairs.now c.first-item.result c.in-len1-up.len_at_least c.first-item.is
