use Rattle.std.proofs.Common.{Option, Some, map, refl, rules, subst, ◌∙◌}
use Rattle.std.specs.Option.{option_map}
use Rattle.cat_core.specs.declared.tickets.OpenSweep.{OpenSweep}
use Rattle.cat_core.specs.Lasting.{IsHolding}
use Rattle.cat_core.specs.Stored.{GoesBehind, IsSwept, draft_held, opened_held, sweep_held}
use Rattle.cat_core.proofs.Behind.{behind_begun}
use Rattle.cat_core.proofs.Giving.{given_is, none_seen}
use Rattle.cat_core.proofs.Held.{at_least, log_seen}
use Rattle.cat_core.proofs.Lasting.{holding_given}
use Rattle.cat_core.proofs.SweepsOn.{swept_given}
use Rattle.cat_core.proofs.store.Store.give.Goals.{in-Some, in_default}
use Rattle.cat_core.proofs.store.Store.give.Goals as goal

pub invariant_of-self : goal.invariant_of-self
invariant_of-self g c =
    elim c.match-self.branch [
      | in-Some w ↦
          let was = subst (λ (h : Option OpenSweep). IsSwept c.self.inside.ledger (map draft_held c.self.inside.drafts.items) h c.self.inside.closed) w.in-Some.is c.self.invariant.2 in
          let o = opened_held c.self.inside.ledger.base c.self.inside.start in
          let behind = subst (λ (h : Option OpenSweep). GoesBehind g.K.Keeper o (map draft_held c.self.inside.drafts.items) h c.self.inside.keeper) w.in-Some.is c.self.invariant.4 in
          rw w.self-inside-is (
            c.self.invariant.0,
            c.self.invariant.1,
            swept_given c.self.inside.ledger (opened_held c.self.inside.ledger.base c.self.inside.start) _ w.in-Some.open (record (w.in-Some.open) { drained = c.entries-entries.result; given_commits = w.len-open.result; given_contents = w.len-open-in-Some.result })
                c.self.inside.closed was c.self.invariant.1 refl refl refl (c.entries-entries.ensures ∙ log_seen _ _ c.self.view_is) (record { commits = at_least _ _ (search rules); contents = at_least _ _ (search rules) }),
            holding_given c.self.inside.ledger _ (sweep_held w.in-Some.open) (sweep_held (record (w.in-Some.open) { drained = c.entries-entries.result; given_commits = w.len-open.result; given_contents = w.len-open-in-Some.result }))
                (subst (λ (h : Option OpenSweep). IsHolding c.self.inside.ledger (map draft_held c.self.inside.drafts.items) (option_map sweep_held h)) w.in-Some.is c.self.invariant.3) refl,
            behind_begun g.K.Keeper o c.self.inside.keeper _ (Some w.in-Some.open) behind (record (w.in-Some.open) { drained = c.entries-entries.result; given_commits = w.len-open.result; given_contents = w.len-open-in-Some.result }) behind.since,
          )
      | in_default w ↦ rw w.self-inside-is c.self.invariant
    ]

pub returns : goal.returns
returns g c = λ o there.
    elim c.match-self.branch [
      | in-Some w ↦
          rw w.self-inside-is
          (given_is _ _ c.self.view_is _ c.self.inside.sweep w.in-Some.open (record (w.in-Some.open) { drained = c.entries-entries.result; given_commits = w.len-open.result; given_contents = w.len-open-in-Some.result })
          w.in-Some.is refl refl refl refl refl refl (c.entries-entries.ensures ∙ log_seen _ _ c.self.view_is) (search rules) (search rules) refl o there)
      | in_default w ↦ absurd (none_seen _ _ c.self.view_is c.self.inside.sweep w.in_default.is refl o there)
    ]
