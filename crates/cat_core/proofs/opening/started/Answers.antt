use Rattle.std.proofs.Common.{◌∙◌, sym}
use Rattle.std.proofs.lemmas.Result.{err_from_is_err_and}
use Rattle.cat_core.proofs.Led.{begins_at, fault_of, illegal_at, other_at}
use Rattle.cat_core.proofs.opening.started.Goals as goal

pub returns-in_err-replay-clause-illegal : goal.returns-in_err-replay-clause-illegal
returns-in_err-replay-clause-illegal g c = λ place is.
    let p = err_from_is_err_and c.from_residual-in_err-replay.result c.from_residual-in_err-replay.ensures.1 in
    illegal_at (g.K.Keeper.told c.args.keeper.now) c.args.limits c.total-payloads.result c.fault_count.result c.in_ok-base.base place c.in_ok-base.ensures.base (c.in_err-replay.ensures.illegal place (fault_of _ _ (rw (p.1, p.2) at is)))

pub returns-clause-starts : goal.returns-clause-starts
returns-clause-starts g c =
    begins_at (g.K.Keeper.told c.args.keeper.now) c.args.limits c.total-payloads.result c.fault_count.result _ c.first-first.result c.in_ok-base.base c.in_ok-replay.replay c.at_place.result c.in_ok-base.ensures.base c.total-payloads.ensures c.in_ok-replay.ensures.starts c.fault_count.ensures c.at_place.ensures.ok

pub returns-clause-illegal : goal.returns-clause-illegal
returns-clause-illegal g c = λ at is.
    other_at (g.K.Keeper.told c.args.keeper.now) c.args.limits c.total-payloads.result c.fault_count.result c.first-first.result c.in_ok-base.base c.in_ok-replay.replay at c.in_ok-base.ensures.base
    (λ ps told. (g.met.K.Keeper g.world.𝓛 g.world.𝓜 g.world.𝓡 ((λ s x. x), (λ x. x), (λ x. x), λ x. x)).begins c.args.keeper.now ps told ∙ sym c.first-first.ensures)
    c.in_ok-replay.ensures.starts (c.at_place.ensures.illegal at is)
