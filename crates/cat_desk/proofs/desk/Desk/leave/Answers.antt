use Rattle.std.proofs.Common.{rules, ◌≡◌, ℕ, ◌+◌, ap, sym, ◌∙◌, subst, Some, ◌∷◌, []}
use Rattle.atomic_table.specs.Table.{rest}
use Rattle.cat_desk.specs.Sight.{View}
use Rattle.cat_desk.specs.Pass.{DeskId, mark_in, turn_in}
use Rattle.cat_model.specs.Turns.{Adds}
use Rattle.cat_model.specs.Mark.{Later}
use Rattle.cat_model.specs.Drafts.{LeavesOthers}
use Rattle.cat_desk.proofs.Gives.{gives_value}
use Rattle.cat_desk.proofs.Keeps.{rings, serves}
use Rattle.cat_desk.proofs.desk.Desk.leave.Goals as goal

pub store-requires : goal.store-requires
store-requires g c = let log = g.V.Logged.log in let turn = c.requires.turn in let now = c.exchange.ensures.3 in let same = ap (λ m. m.0) now in
    let held : c.exchange.new.seat.me.1 ≡ (0, Some c.args.held.value) ∷ [] = ap (λ m. m.1) now ∙ ap (λ l. (0, Some c.args.held.value) ∷ rest l) turn.2 in
    let adds = subst (λ (n : ℕ). Adds n c.args.held.seat.me.0.seen (log c.args.held.value)) (sym turn.5) c.requires.acts.adds in
    let from = c.requires.acts.opened ∙ sym (ap (λ (z : DeskId). z.opened) c.self.view_is) in
    let later = subst (λ (v : View). Later v.number v.mark (g.V.Logged.mark c.args.held.value)) (sym same) (subst (λ (n : ℕ). Later n c.args.held.seat.me.0.mark (g.V.Logged.mark c.args.held.value)) (sym turn.5) c.requires.acts.later) in
    let leaves = subst (λ (v : View). LeavesOthers v.number v.found (g.V.Logged.left_open c.args.held.value)) (sym same) (subst (λ (n : ℕ). LeavesOthers n c.args.held.seat.me.0.found (g.V.Logged.left_open c.args.held.value)) (sym turn.5) c.requires.acts.others) in (
      search rules,
      search rules,
      gives_value _ _ _ _ _ _ _ _ _ _ c.args.held.value c.self.invariant.1 held (ap (λ (v : View). v.stage) same ∙ turn.3)
          (subst (λ (v : View). Adds v.number v.seen (log c.args.held.value)) (sym same) adds) (subst (λ o. g.V.Logged.legal o (log c.args.held.value)) from c.requires.acts.is_legal) from later leaves c.count-count.ensures c.count-count.type_inv,
    )

pub store-requires-2 : goal.store-requires-2
store-requires-2 g c = let turn = c.requires.turn in let now = c.exchange.ensures.3 in let same = ap (λ m. m.0) now in
    let held : c.exchange.new.seat.me.1 ≡ (0, Some c.args.held.value) ∷ [] = ap (λ m. m.1) now ∙ ap (λ l. (0, Some c.args.held.value) ∷ rest l) turn.2 in
    let gave = c.store.ensures.2 c.args.held.value held in (
      search rules,
      search rules,
      serves _ _ _ _ _ _ _ _ _ _ (ap (λ (v : View). v.stage) gave.0) (ap (λ (n : ℕ). n + 1) (sym (ap (λ (v : View). v.ticket) gave.0 ∙ (ap (λ (v : View). v.ticket) same ∙ turn.6)))),
    )

pub store-requires-3 : goal.store-requires-3
store-requires-3 g c = (search rules, search rules, rings _ _ _ _ _ _ _ _ _ _ _ (ap (λ (v : View). v.stage) c.store-2.ensures.2.1) c.bell_of-bell.ensures.0)

pub returns-clause-mark : goal.returns-clause-mark
returns-clause-mark g c = let turn = c.requires.turn in let now = c.exchange.ensures.3 in let same = ap (λ m. m.0) now in
    let held : c.exchange.new.seat.me.1 ≡ (0, Some c.args.held.value) ∷ [] = ap (λ m. m.1) now ∙ ap (λ l. (0, Some c.args.held.value) ∷ rest l) turn.2 in
    let gave = (c.store.ensures.2 c.args.held.value held).0 in let served = c.store-2.ensures.2.1 in let rung = ap (λ m. m.0) c.store-3.ensures.2 in let at = c.into_badge.ensures.2 in (
      ap mark_in at ∙ (ap (λ (v : View). v.mark) rung ∙ (ap (λ (v : View). v.mark) served ∙ ap (λ (v : View). v.mark) gave)),
      ap turn_in at ∙ (ap (λ (v : View). v.turn) rung ∙ (ap (λ (v : View). v.turn) served ∙ (ap (λ (v : View). v.turn) gave ∙ ap (λ (v : View). v.turn + 1) same))),
    )
