use Rattle.std.proofs.lemmas.Result.{err_from_is_err_and}
use Rattle.cat_state.proofs.Appended.{stays}
use Rattle.cat_state.proofs.shared.SharedCatalogue.make_sweep.Goals as goal

pub returns-in_err-next-clause-keeps : goal.returns-in_err-next-clause-keeps
returns-in_err-next-clause-keeps g c =
    let p = err_from_is_err_and c.from_residual.result c.from_residual.ensures.1 in
    let met = g.met.K.Keeper g.world.𝓛 g.world.𝓜 g.world.𝓡 ((λ s x. x), (λ x. x), (λ x. x), λ x. x) in
    rw (p.1, p.2) (stays g.K.Keeper met.safe met.only_now c.args.keeper.now)
