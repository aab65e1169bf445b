use Rattle.std.proofs.Common.{[], ◌∷◌}
use Rattle.cat_mark.proofs.Marking.{first, on_err, stays, stops}
use Rattle.cat_mark.proofs.hashes.Hashes.mark_map.Goals as goal

pub returns-in_err-add-clause-err : goal.returns-in_err-add-clause-err
returns-in_err-add-clause-err c =
    let failed = stays c.loop-entry.self c.add.new.self _ c.in_err-add.ensures.err c.in_err-add.ensures.absent in
    on_err c.from_residual.result
    (stops _ _ _ _ _ _ _ c.loop-entry.invariant failed (first (λ x. x.1.hash ∷ []) c.loop-entry.rest (_, c.in-Some.entry) c.next.new.self c.in-Some.ensures))
