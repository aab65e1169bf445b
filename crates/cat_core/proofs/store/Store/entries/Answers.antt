use Rattle.std.proofs.Common.{length, ap, arith}
use Rattle.cat_core.specs.Stored.{opened_held}
use Rattle.cat_core.proofs.UnderWay.{place_log}
use Rattle.cat_core.proofs.store.Store.entries.Goals as goal

pub overflow_sub-result : goal.overflow_sub-result
overflow_sub-result g c =
    let long = place_log c.self.inside.ledger (opened_held c.self.inside.ledger.base c.self.inside.start) _ c.self.invariant.1 in
    omega (arith, c.place.ensures, c.first.ensures, long)

pub returns : goal.returns
returns g c =
    let long = place_log c.self.inside.ledger (opened_held c.self.inside.ledger.base c.self.inside.start) _ c.self.invariant.1 in
    let same = ap (λ s. length s.book.log) c.self.view_is in
    omega (arith, c.place.ensures, c.first.ensures, long, same)
