use Rattle.cat_core.proofs.Acting.{acts_settle}
use Rattle.cat_core.proofs.Gone.{gone_tells}
use Rattle.cat_core.proofs.store.Store.settle.Goals as goal

pub returns-clause-gone : goal.returns-clause-gone
returns-clause-gone g c = gone_tells c.args.self.now c.settled.new.self c.args.draft c.args.built c.args.moment c.settled.result c.is_sound.ensures.holding c.requires.is_open c.settled.ensures.settles

pub returns-clause-acts : goal.returns-clause-acts
returns-clause-acts g c = acts_settle c.args.self.now c.settled.new.self c.args.draft c.args.built c.args.moment c.settled.result c.is_sound.ensures.sound c.requires.well_made c.requires.is_open c.settled.ensures.settles
