use Rattle.std.proofs.Common.{◌<◌, arith}
use Rattle.cat_core.proofs.Swept.{has_place, place_below, swept_again, sweep_spares}
use Rattle.cat_core.proofs.replay.Replay.sweep_again.Goals as goal

pub overflow_add-place : goal.overflow_add-place
overflow_add-place c =
    let below : c.args.self.now.ledger.state.place < 4294967295 = place_below c.args.self.now.ledger c.args.entry c.args.hashes.items c.requires.removes c.limits.result (rw c.catalogue-catalogue.ensures at c.limits.ensures.value) c.limits.ensures.log in
    rw (c.place-place.ensures, c.catalogue-catalogue.ensures) (omega (arith, below))

pub sweep_again-requires-clause-log : goal.sweep_again-requires-clause-log
sweep_again-requires-clause-log c = has_place c.args.self.now.ledger.state c.requires.removes.sweep c.requires.removes.room

pub sweep_again-requires-clause-spared : goal.sweep_again-requires-clause-spared
sweep_again-requires-clause-spared c = rw c.as_slice.ensures.value (sweep_spares c.args.self.now.ledger c.args.entry c.args.hashes.items c.requires.removes)

pub returns-clause-runs : goal.returns-clause-runs
returns-clause-runs c =
    swept_again c.args.self.now.ledger c.sweep_again.new.self c.args.entry c.args.hashes.items c.requires.removes c.requires.own_draft
    (rw (c.as_slice.ensures.value, c.place-place.ensures, c.catalogue-catalogue.ensures) at c.in_ok-sweep_again.ensures)
