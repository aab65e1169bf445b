use Rattle.std.proofs.Common.{refl, rules}
use Rattle.cat_core.specs.Stored.{opened_held}
use Rattle.cat_core.proofs.Giving.{roots_ok, roots_seen}
use Rattle.cat_core.proofs.UnderWay.{headed_inside, linked_inside}
use Rattle.cat_core.proofs.store.Store.roots_since.Goals as goal

pub returns-clause-completes : goal.returns-clause-completes
returns-clause-completes g c = λ o there.
    roots_ok _ _ c.self.view_is (opened_held c.self.inside.ledger.base c.self.inside.start) _ c.self.inside.sweep c.in-Some.open c.roots_since.result c.entries_from.result.now c.behind-commits.result.now c.behind-contents.result.now c.in-Some.is refl c.self.invariant.1 c.self.invariant.2.sweep
    (linked_inside _ _ c.self.view_is c.knows_heads.ensures.linked) (headed_inside _ _ c.self.view_is c.knows_heads.ensures.heads) c.roots_since.ensures (search rules) (search rules) (search rules) o there

pub returns-clause-from : goal.returns-clause-from
returns-clause-from g c = λ o there.
    roots_seen _ _ c.self.view_is c.self.inside.sweep c.in-Some.open c.roots_since.result c.entries_from.result.now c.behind-commits.result.now c.behind-contents.result.now c.in-Some.is refl c.self.invariant.2.sweep c.roots_since.ensures (search rules) (search rules) (search rules) o there
