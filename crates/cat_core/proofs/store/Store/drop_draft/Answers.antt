use Rattle.cat_core.proofs.Acting.{acts_dropped}
use Rattle.cat_core.proofs.store.Store.drop_draft.Goals as goal

pub returns-clause-acts : goal.returns-clause-acts
returns-clause-acts g c = acts_dropped c.args.self.now c.dropped.new.self c.args.draft c.dropped.ensures c.is_sound.ensures.sound.legal
