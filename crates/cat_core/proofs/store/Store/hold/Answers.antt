use Rattle.std.proofs.Common.{refl, rules, sym, ap, subst, ◌∙◌}
use Rattle.cat_decisions.specs.Builds.{command_of}
use Rattle.cat_model.specs.Book.{Book}
use Rattle.cat_model.specs.Drafts.{Names}
use Rattle.cat_model.specs.State.{State}
use Rattle.cat_core.specs.Stored.{AreKnown}
use Rattle.cat_core.proofs.Behind.{behind_held}
use Rattle.cat_core.proofs.Held.{held_for, holds, sound_held, state_seen, step_held}
use Rattle.cat_core.proofs.Lasting.{holding_held, noted_as}
use Rattle.cat_core.proofs.UnderWay.{headed_inside, linked_inside, names_known, opened_inside, swept_held, swept_noted}
use Rattle.cat_core.proofs.store.Store.hold.Goals as goal

pub invariant_of-self-2 : goal.invariant_of-self-2
invariant_of-self-2 g c =
    let command = command_of c.args.call.now in
    let names = c.in_ok-commits.ensures c.args.ticket.number c.requires.given in
    let known = names_known c.self.inside.ledger.state command c.args.ticket.number (linked_inside _ _ c.self.view_is c.knows_heads.ensures.linked) (headed_inside _ _ c.self.view_is c.knows_heads.ensures.heads) (opened_inside _ _ command c.self.view_is c.requires.opened) in
    let held = holds c.args.ticket command c.self.inside.drafts.items c.push_reserved.new.self.items (record { ticket = c.args.ticket; commits = c.in_ok-commits.commits; contents = c.in_ok-commits.contents }) (search rules) refl names in (
      step_held g.K.Keeper c.self.inside.start c.self.inside.ledger c.take.new.self c.self.inside.keeper c.self.inside.fallen c.args.ticket.number c.take.ensures c.self.invariant.0,
      sound_held c.self.inside.start c.self.inside.ledger c.take.new.self _ _ c.args.ticket command c.self.invariant.1 c.take.ensures (search rules) held,
      swept_held c.self.inside.ledger c.take.new.self _ _ (held_for c.args.ticket command) c.note.new.sweep c.self.inside.closed
          (swept_noted c.self.inside.ledger _ _ c.self.inside.sweep c.note.new.sweep c.self.inside.closed c.note.result c.self.invariant.2
          (subst (AreKnown c.self.inside.ledger.state) (sym c.as_slice.ensures.value) (subst (λ (n : Names). AreKnown c.self.inside.ledger.state n.commits) (sym names) known)) c.note.ensures.ok c.note.ensures.err c.note.ensures.fronts)
          (ap (λ (b : Book). b.state) c.take.ensures) (ap (λ (b : Book). b.log) c.take.ensures) (ap (λ (b : Book). b.base) c.take.ensures) held known,
      holding_held c.self.inside.ledger c.take.new.self _ _ (held_for c.args.ticket command) _ _ c.self.invariant.3
          (ap (λ (b : Book). b.state) c.take.ensures) (ap (λ (b : Book). b.log) c.take.ensures) (ap (λ (b : Book). b.base) c.take.ensures) held
          (c.requires.place ∙ sym (ap (λ (s : State). s.place) (state_seen _ _ c.self.view_is)))
          (noted_as c.note.new.sweep c.self.inside.sweep _ _ _ _ _ c.in_ok-note.ensures.ok c.as_slice.ensures.value c.as_slice-2.ensures.value names),
      behind_held g.K.Keeper c.self.inside.start c.self.inside.ledger c.take.new.self c.self.inside.keeper _ _ (held_for c.args.ticket command) _ c.self.inside.sweep c.note.new.sweep c.note.result
          c.self.invariant.4 c.self.invariant.1 c.self.invariant.0.payloads (search rules) held (ap (λ (b : Book). b.base) c.take.ensures) c.note.ensures.ok c.note.ensures.err,
    )
