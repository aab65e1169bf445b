use Rattle.cat_model.proofs.FrontFacts.{front_is}
use Rattle.cat_model.proofs.cutoff.fronts_begin_names.Goals as goal

pub returns : goal.returns
returns c = front_is
