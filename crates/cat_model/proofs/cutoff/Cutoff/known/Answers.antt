use Rattle.cat_model.proofs.CutoffFacts.{kept_is}
use Rattle.cat_model.proofs.cutoff.Cutoff.known.Goals as goal

pub returns : goal.returns
returns c = kept_is c.args.self.now
