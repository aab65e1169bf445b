use Rattle.cat_core.proofs.Ending.{sweeps_it}
use Rattle.cat_core.proofs.Shutting.{acts_swept}
use Rattle.cat_core.proofs.store.Store.sweep.Goals as goal

pub returns-clause-swept : goal.returns-clause-swept
returns-clause-swept g c =
    sweeps_it c.args.self.now c.swept-told.new.self c.args.self.now.left_open.sweep c.args.moment c.swept-told.result c.requires.is_open.0 c.requires.is_open.1 (λ o is. (c.swept-told.ensures o is).refers)

pub returns-clause-rests : goal.returns-clause-rests
returns-clause-rests g c = (c.swept-told.ensures c.requires.is_open.0 c.requires.is_open.1).rests

pub returns-clause-acts : goal.returns-clause-acts
returns-clause-acts g c =
    acts_swept c.args.self.now c.swept-told.new.self c.args.sweep c.args.moment c.swept-told.result c.requires.is_open
    (sweeps_it c.args.self.now c.swept-told.new.self c.args.self.now.left_open.sweep c.args.moment c.swept-told.result c.requires.is_open.0 c.requires.is_open.1 (λ o is. (c.swept-told.ensures o is).refers))
    c.is_sound.ensures.sweep c.is_sound.ensures.closes c.is_sound.ensures.sound
