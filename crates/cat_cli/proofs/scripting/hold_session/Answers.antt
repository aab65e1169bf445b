use Rattle.std.proofs.Common.{◌≡◌, ℕ, refl, sym, subst, ◌∙◌, arith}
use Rattle.cat_io.specs.Causes.{Rose}
use Rattle.cat_core.specs.Stored.{opened_of}
use Rattle.cat_cli.specs.Runs.{start}
use Rattle.cat_serve.specs.Sessions.{journal_by}
use Rattle.cat_serve.specs.ReadingLaws.{reads_on, some_readings}
use Rattle.cat_cli.proofs.Left.{began_on, counted_at, fallen_at, left_so, level_at, none_told}
use Rattle.cat_cli.proofs.Starting.{started}
use Rattle.cat_cli.proofs.scripting.hold_session.Goals as goal

pub release-store-requires-clause-alone : goal.release-store-requires-clause-alone
release-store-requires-clause-alone g c lives alive = omega (arith, c.serve_connection-end.ensures.kept.held, c.serve_connection-end.ensures.kept.spare, c.in-Ok.ensures.ready.1)

pub returns-in-Ok-clause-ends : goal.returns-in-Ok-clause-ends
returns-in-Ok-clause-ends g c b w e f =
    let ready = c.in-Ok.ensures.ready in
    let begins = started c.in-Ok.desk c.in-Ok.pass (opened_of c.args.store) c.args.store.book c.args.store.mark _ _ b w c.in-Ok.ensures.opened ready.0 ready.1 ready.2 c.in-Ok.ensures.book c.in-Ok.ensures.mark.0 c.requires.up c.in-Ok.ensures.mark.1 e f in
    let ends = c.serve_connection-end.ensures.alone in
    let k = some_readings ends.0 _ _ ends.1 in
    let x = ends.2 k.0 (start (journal_by (opened_of c.args.store) c.args.store.mark) c.args.store.book b w) k.2 refl begins in (
      k.0,
      k.1,
      x.0,
      x.1,
      x.2,
      x.3,
      left_so g.K0.Keeper.down g.K0.Keeper.in_flight c.in-Ok.desk x.2 c.serve_connection-end.new.pass c.args.store c.release-store.result x.4 (c.release-store.ensures.opened ∙ c.in-Ok.ensures.opened) c.release-store.ensures.book c.release-store.ensures.mark.0
          c.log_is_kept.ensures.fallen c.log_is_kept.ensures.flies,
      reads_on ends.0 _ _ x.2.session.readings ends.1 x.5,
    )

pub returns-in-Ok-clause-level : goal.returns-in-Ok-clause-level
returns-in-Ok-clause-level g c up =
    let store = c.release-store.result in
    let began = began_on c.args.store store _ c.in-Ok.ensures.opened c.release-store.ensures.opened in
    level_at store.mark.fault (g.K0.Keeper.faults store.keeper) store.opened.faults c.log_is_kept.ensures.level (none_told (g.K0.Keeper.down store.keeper) store.mark.fault c.log_is_kept.ensures.fallen up) ∙ began

pub returns-in-Ok-clause-rose : goal.returns-in-Ok-clause-rose
returns-in-Ok-clause-rose g c count fell =
    let store = c.release-store.result in
    let began = began_on c.args.store store _ c.in-Ok.ensures.opened c.release-store.ensures.opened in
    subst (λ (n : ℕ). Rose n count × (count ≡ g.K0.Keeper.faults store.keeper)) began
    (fallen_at (λ (n : ℕ). Rose store.opened.faults n × (n ≡ g.K0.Keeper.faults store.keeper)) (g.K0.Keeper.down store.keeper) store.mark.fault c.log_is_kept.ensures.fallen
    (λ x is. ((c.log_is_kept.ensures.rose x is).1, counted_at store.mark.fault (g.K0.Keeper.faults store.keeper) store.opened.faults x c.log_is_kept.ensures.level is)) count fell)

-- the last checkpoint's place is told by what the keeper has
pub returns-in-Ok-clause-based : goal.returns-in-Ok-clause-based
returns-in-Ok-clause-based g c ps told =
    (g.met.K0.Keeper g.world.𝓛 g.world.𝓜 g.world.𝓡 ((λ s x. x), (λ x. x), (λ x. x), λ x. x)).begins c.release-store.result.keeper ps told ∙ sym c.log_is_kept.ensures.base
