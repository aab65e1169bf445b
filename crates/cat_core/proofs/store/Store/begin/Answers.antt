use Rattle.std.proofs.Common.{arith, refl, rules, ◌∙◌}
use Rattle.cat_core.specs.Stored.{opened_held}
use Rattle.cat_core.proofs.Behind.{behind_begun}
use Rattle.cat_core.proofs.Giving.{begun_is}
use Rattle.cat_core.proofs.Held.{at_least, log_seen}
use Rattle.cat_core.proofs.Lasting.{holding_begun}
use Rattle.cat_core.proofs.SweepsOn.{last_inside, swept_begun}
use Rattle.cat_core.proofs.store.Store.begin.Goals as goal

pub invariant_of-self : goal.invariant_of-self
invariant_of-self g c = (
  c.self.invariant.0,
  c.self.invariant.1,
  swept_begun c.self.inside.ledger (opened_held c.self.inside.ledger.base c.self.inside.start) _
      (record { ticket = record { number = c.next_sweep.result; caller = c.args.caller; place = c.place.result }; policy = c.args.policy; commits = c.in_ok-commits.commits; contents = c.in_ok-contents.contents; drained = c.entries.result; given_commits = c.len.result; given_contents = c.len-2.result })
      c.self.inside.sweep c.self.inside.closed c.self.invariant.2 c.self.invariant.1 c.place.ensures (c.entries.ensures ∙ log_seen _ _ c.self.view_is) (search rules) (record { commits = at_least _ _ (search rules); contents = at_least _ _ (search rules) })
      c.requires.few c.requires.logged (last_inside _ _ c.self.view_is c.self.inside.closed c.next_sweep.result refl c.next_sweep.ensures.last),
  holding_begun c.self.inside.ledger _ _
      (record { ticket = record { number = c.next_sweep.result; caller = c.args.caller; place = c.place.result }; policy = c.args.policy; commits = c.in_ok-commits.commits; contents = c.in_ok-contents.contents; drained = c.entries.result; given_commits = c.len.result; given_contents = c.len-2.result })
      c.self.invariant.3 (search rules) (search rules),
  behind_begun g.K.Keeper (opened_held c.self.inside.ledger.base c.self.inside.start) c.self.inside.keeper _ c.self.inside.sweep c.self.invariant.4
      (record { ticket = record { number = c.next_sweep.result; caller = c.args.caller; place = c.place.result }; policy = c.args.policy; commits = c.in_ok-commits.commits; contents = c.in_ok-contents.contents; drained = c.entries.result; given_commits = c.len.result; given_contents = c.len-2.result })
      (omega (arith, c.place.ensures, c.self.invariant.0.number)),
)

pub returns-clause-opened : goal.returns-clause-opened
returns-clause-opened g c =
    begun_is c.args.caller _ _ c.self.view_is _
    (record { ticket = record { number = c.next_sweep.result; caller = c.args.caller; place = c.place.result }; policy = c.args.policy; commits = c.in_ok-commits.commits; contents = c.in_ok-contents.contents; drained = c.entries.result; given_commits = c.len.result; given_contents = c.len-2.result })
    _ c.in_ok-roots.roots c.in_ok-view.view c.requires.up c.requires.none refl c.next_sweep.ensures.next refl c.place.ensures (search rules) (search rules) (c.entries.ensures ∙ log_seen _ _ c.self.view_is) (search rules) (search rules) (search rules) (search rules) refl
