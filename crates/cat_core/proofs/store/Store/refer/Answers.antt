use Rattle.cat_core.proofs.Acting.{acts_refer}
use Rattle.cat_core.proofs.store.Store.refer.Goals as goal

pub returns-in-None-clause-acts : goal.returns-in-None-clause-acts
returns-in-None-clause-acts g c =
    acts_refer c.args.self.now c.refer_up.new.self c.args.caller c.args.moment c.args.command.now c.refer_up.result c.is_sound.ensures.sound c.requires.well_made c.requires.opens c.refer_up.ensures.refers
