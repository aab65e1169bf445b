use Rattle.std.proofs.Common.{◌≡◌, ℕ, subst}
use Rattle.cat_core.specs.Stored.{faults_at}
use Rattle.cat_io.specs.Causes.{Rose}
use Rattle.cat_cli.proofs.HostedStores.{hosts}
use Rattle.cat_cli.proofs.Left.{began_on}
use Rattle.cat_cli.proofs.serving.hold_serving.Goals as goal

pub returns-in-Ok-clause-comes : goal.returns-in-Ok-clause-comes
returns-in-Ok-clause-comes g c =
    hosts _ _ _ _ c.in-Ok.desk c.in-Ok.pass _ c.serve_at-end.new.pass _ c.args.store c.release-store.result _ c.serve_at-end.result c.requires.few.0.1 c.in-Ok.ensures.ready.2 c.in-Ok.ensures.spare c.in-Ok.ensures.opened c.in-Ok.ensures.marked c.in-Ok.ensures.begun c.in-Ok.ensures.book c.in-Ok.ensures.mark.0
    c.serve_at-end.ensures.ready c.release-store.ensures.book c.release-store.ensures.mark.0 c.release-store.ensures.opened c.release-store.ensures.given c.serve_at-end.ensures.comes

pub returns-in-Ok-clause-level : goal.returns-in-Ok-clause-level
returns-in-Ok-clause-level g c =
    let store = c.release-store.result in
    let began = began_on c.args.store store _ c.in-Ok.ensures.opened c.release-store.ensures.opened in
    subst (λ (n : ℕ). g.K0.Keeper.faults store.keeper ≡ faults_at n store.mark.fault) began c.log_is_kept.ensures.level

pub returns-in-Ok-clause-rose : goal.returns-in-Ok-clause-rose
returns-in-Ok-clause-rose g c x is =
    let store = c.release-store.result in
    let began = began_on c.args.store store _ c.in-Ok.ensures.opened c.release-store.ensures.opened in
    subst (λ (n : ℕ). Rose n x.count) began (c.log_is_kept.ensures.rose x is).1
