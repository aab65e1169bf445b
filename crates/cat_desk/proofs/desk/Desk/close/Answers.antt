use Rattle.std.proofs.Common.{◌≡◌, ℕ, ◌+◌, ◌-◌, ◌<◌, List, sym, ap, ap₂, ◌∙◌, subst, Some, None}
use Rattle.cat_model.specs.declared.log_entry.LogEntry.{LogEntry}
use Rattle.cat_model.specs.Mark.{Mark}
use Rattle.cat_desk.specs.Log.{Since}
use Rattle.cat_desk.specs.Marks.{IsGiven}
use Rattle.cat_desk.specs.Pass.{DeskId}
use Rattle.cat_desk.proofs.Passes.{closes_at, free_view, given_at, stays_at}
use Rattle.cat_desk.proofs.desk.Desk.close.Goals as goal

pub unreachable-requires : goal.unreachable-requires
unreachable-requires g c = let f = free_view c.args.self c.args.pass c.into_seat.result.me.0 c.requires.free c.into_seat.ensures.2 in
    let d = closes_at _ _ _ _ _ _ _ _ _ _ c.close_with-closed.ensures.values.2 f.idle (sym (ap₂ (λ (a b : ℕ). a + b) f.held (sym f.spare)) ∙ c.requires.all) c.take-inside.result c.take-inside.ensures.value in
    let n : None ≡ Some d.0 = sym c.in-None.is ∙ d.1 in cc

pub returns-clause-log : goal.returns-clause-log
returns-clause-log g c = let f = free_view c.args.self c.args.pass c.into_seat.result.me.0 c.requires.free c.into_seat.ensures.2 in
    let d = closes_at _ _ _ _ _ _ _ _ _ _ c.close_with-closed.ensures.values.2 f.idle (sym (ap₂ (λ (a b : ℕ). a + b) f.held (sym f.spare)) ∙ c.requires.all) c.take-inside.result c.take-inside.ensures.value in
    let n : Some c.in-Some.value ≡ Some d.0 = sym c.in-Some.is ∙ d.1 in let same : c.in-Some.value ≡ d.0 = cc in (ap g.V.Logged.log same ∙ (d.2 ∙ sym f.seen), ap g.V.Logged.mark same ∙ (d.5 ∙ sym f.mark))

pub returns-clause-legal : goal.returns-clause-legal
returns-clause-legal g c = let f = free_view c.args.self c.args.pass c.into_seat.result.me.0 c.requires.free c.into_seat.ensures.2 in
    let d = closes_at _ _ _ _ _ _ _ _ _ _ c.close_with-closed.ensures.values.2 f.idle (sym (ap₂ (λ (a b : ℕ). a + b) f.held (sym f.spare)) ∙ c.requires.all) c.take-inside.result c.take-inside.ensures.value in
    let n : Some c.in-Some.value ≡ Some d.0 = sym c.in-Some.is ∙ d.1 in let same : c.in-Some.value ≡ d.0 = cc in
    let base = ap (λ (z : DeskId). z.opened) c.self.view_is in
    (ap g.V.Logged.opened same ∙ (d.3 ∙ base), subst (λ o. g.V.Logged.legal o (g.V.Logged.log c.in-Some.value)) base (subst (λ x. g.V.Logged.legal (g.V.Logged.opened c.self.inside.table.shared.key) (g.V.Logged.log x)) (sym same) d.4))

pub returns-clause-own : goal.returns-clause-own
returns-clause-own g c = let f = free_view c.args.self c.args.pass c.into_seat.result.me.0 c.requires.free c.into_seat.ensures.2 in
    let d = closes_at _ _ _ _ _ _ _ _ _ _ c.close_with-closed.ensures.values.2 f.idle (sym (ap₂ (λ (a b : ℕ). a + b) f.held (sym f.spare)) ∙ c.requires.all) c.take-inside.result c.take-inside.ensures.value in
    let n : Some c.in-Some.value ≡ Some d.0 = sym c.in-Some.is ∙ d.1 in let same : c.in-Some.value ≡ d.0 = cc in
    (stays_at _ _ (sym f.left) f.number (sym (ap g.V.Logged.left_open same)) d.6, ap g.V.Logged.left_open same ∙ (d.7 ∙ sym f.all_left))

pub returns-clause-given : goal.returns-clause-given
returns-clause-given g c some_left = let f = free_view c.args.self c.args.pass c.into_seat.result.me.0 c.requires.free c.into_seat.ensures.2 in
    let t = given_at _ _ _ _ _ _ _ _ _ _ c.close_with-closed.ensures.values.2 f.idle (subst (λ (n : ℕ). 0 < n) (sym f.spare) some_left) in
    let begun = ap (λ (z : DeskId). z.begun) c.self.view_is in let marked = ap (λ (z : DeskId). z.marked) c.self.view_is in (
      subst (λ (z : ℕ × List LogEntry × List LogEntry). Since (4294967296 - z.0) z.1 z.2) (λ i. (f.spare i, begun i, sym f.seen i)) t.0,
      subst (λ (z : ℕ × Mark × Mark). IsGiven (4294967296 - z.0) z.1 z.2) (λ i. (f.spare i, marked i, sym f.mark i)) t.1,
    )
