use Rattle.std.proofs.Common.{rules}
use Rattle.cat_decisions.specs.Builds.{command_of}
use Rattle.cat_core.proofs.Acting.{acts_held}
use Rattle.cat_core.proofs.Settling.{not_opened}
use Rattle.cat_core.proofs.store.Store.open_draft.Goals as goal

pub returns-in-Ok-hold-clause-acts : goal.returns-in-Ok-hold-clause-acts
returns-in-Ok-hold-clause-acts g c =
    acts_held c.args.self.now c.hold.new.self (record { number = c.in-Ok.number; caller = c.args.caller; place = c.place-place.result }) (command_of c.in-Ok.call) c.is_sound.ensures.sound c.is_sound.ensures.draft (search rules) (search rules)

pub returns-clause-refused : goal.returns-clause-refused
returns-clause-refused g c =
    (search rules, not_opened c.args.self.now c.args.command.now c.place-place.result c.refused.result c.in-Err.failure c.requires.opens (search rules) (search rules) (search rules) (search rules))
