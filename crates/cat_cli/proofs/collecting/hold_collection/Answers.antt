use Rattle.std.proofs.Common.{◌≡◌, ℕ, ◌∙◌, refl, ap, subst, arith}
use Rattle.cat_core.specs.Stored.{faults_at}
use Rattle.cat_desk.specs.Pass.{seen}
use Rattle.cat_io.specs.Causes.{Rose}
use Rattle.cat_model.specs.Mark.{Mark}
use Rattle.cat_work.specs.Answers.{journal_in}
use Rattle.cat_cli.proofs.Gathered.{gathered, may_be_told}
use Rattle.cat_cli.proofs.Left.{began_on}
use Rattle.cat_cli.proofs.collecting.hold_collection.Goals as goal

pub release-store-requires-clause-alone : goal.release-store-requires-clause-alone
release-store-requires-clause-alone g c lives alive = omega (arith, c.collect-answer.ensures.kept.held, c.collect-answer.ensures.kept.spare, c.in-Ok.ensures.ready.1)

pub meaning-requires : goal.meaning-requires
meaning-requires g c =
    let m = c.collect-answer.ensures.collects in
    may_be_told g.K0.Keeper.in_flight c.args.policy.now m.0 _ _ _ _ _ c.args.store c.release-store.result c.collect-answer.result c.in-Ok.ensures.ready.2 c.in-Ok.ensures.book (ap (λ (x : Mark). x.fault) c.in-Ok.ensures.mark.0 ∙ c.requires.up)
    (m.3 c.in-Ok.ensures.ready.1 c.in-Ok.ensures.mark.1)

pub returns-in-Ok-clause-gathered : goal.returns-in-Ok-clause-gathered
returns-in-Ok-clause-gathered g c =
    let m = c.collect-answer.ensures.collects in
    gathered g.K0.Keeper.in_flight c.args.policy.now m.0 _ _ _ _ _ c.args.store c.release-store.result c.collect-answer.result c.in-Ok.ensures.ready.2 c.in-Ok.ensures.book (ap (λ (x : Mark). x.fault) c.in-Ok.ensures.mark.0 ∙ c.requires.up)
    (m.3 c.in-Ok.ensures.ready.1 c.in-Ok.ensures.mark.1)
    _ _ c.meaning.result m.1 c.meaning.ensures c.release-store.ensures.book (ap (λ (x : Mark). x.fault) c.release-store.ensures.mark.0) c.log_is_kept.ensures.flies c.in-Ok.desk.opened (seen c.collect-answer.new.pass) c.in-Ok.ensures.opened (c.release-store.ensures.opened ∙ c.in-Ok.ensures.opened) refl c.collect-answer.ensures.ready.legal
    (ap (λ (x : Mark). journal_in x) c.release-store.ensures.mark.0 ∙ m.6 c.in-Ok.ensures.ready.1 c.in-Ok.ensures.mark.1 ∙ ap (λ (x : Mark). journal_in x) c.in-Ok.ensures.mark.0)

pub returns-in-Ok-clause-level : goal.returns-in-Ok-clause-level
returns-in-Ok-clause-level g c =
    let store = c.release-store.result in
    let began = began_on c.args.store store _ c.in-Ok.ensures.opened c.release-store.ensures.opened in
    subst (λ (n : ℕ). g.K0.Keeper.faults store.keeper ≡ faults_at n store.mark.fault) began c.log_is_kept.ensures.level

pub returns-in-Ok-clause-rose : goal.returns-in-Ok-clause-rose
returns-in-Ok-clause-rose g c x is =
    let store = c.release-store.result in
    let began = began_on c.args.store store _ c.in-Ok.ensures.opened c.release-store.ensures.opened in
    subst (λ (n : ℕ). Rose n x.count) began (c.log_is_kept.ensures.rose x is).1
