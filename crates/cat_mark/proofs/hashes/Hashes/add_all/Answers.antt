use Rattle.cat_mark.proofs.Marking.{next_one, on_err, stays, stops}
use Rattle.cat_mark.proofs.hashes.Hashes.add_all.Goals as goal

pub returns-in_err-add-clause-err : goal.returns-in_err-add-clause-err
returns-in_err-add-clause-err c =
    let failed = stays c.loop-hash.self c.add.new.self _ c.in_err-add.ensures.err c.in_err-add.ensures.absent in
    on_err c.from_residual.result (stops _ _ _ _ _ _ _ c.loop-hash.invariant failed (next_one c.args.list.now c.loop-hash.hash-index _ c.loop-hash-test.true))
