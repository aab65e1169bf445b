use Rattle.cat_core.proofs.Shutting.{acts_drop}
use Rattle.cat_core.proofs.store.Store.drop_sweep.Goals as goal

pub returns-clause-acts : goal.returns-clause-acts
returns-clause-acts g c = acts_drop c.args.self.now c.shut.new.self c.args.sweep c.requires.is_open c.shut.ensures.shut c.is_sound.ensures.sweep c.is_sound.ensures.sound.legal
