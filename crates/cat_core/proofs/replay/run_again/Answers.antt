use Rattle.cat_core.proofs.Following.{ran_by}
use Rattle.cat_core.proofs.replay.run_again.Goals as goal

pub returns-in-Ok : goal.returns-in-Ok
returns-in-Ok c =
    ran_by c.args.ledger.now c.replay.new.self c.args.entry.now c.args.command.now c.place-place.result c.place.result c.requires.call c.requires.well_made c.requires.own_draft c.in-Ok.ensures.call.book c.place-place.ensures c.place.ensures
