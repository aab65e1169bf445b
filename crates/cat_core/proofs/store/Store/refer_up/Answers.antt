use Rattle.std.proofs.Common.{arith, refl, subst}
use Rattle.sha2.specs.Sha256.{sha256}
use Rattle.cat_checks.specs.HistoryLaws.{none_comes}
use Rattle.cat_model.specs.Book.{call_on}
use Rattle.cat_graph.specs.Linked.{AreLinked}
use Rattle.cat_model.specs.Calls.{in_next}
use Rattle.cat_model.specs.State.{State}
use Rattle.cat_core.specs.Stored.{opened_held}
use Rattle.cat_core.proofs.Grown.{attempt_keeps}
use Rattle.cat_core.proofs.Behind.{call_swept, none_told}
use Rattle.cat_core.proofs.InStep.{right_attempt}
use Rattle.cat_core.proofs.Lasting.{holding_made, keeps_all}
use Rattle.cat_core.proofs.Making.{all_told, down_none, up_inside}
use Rattle.cat_core.proofs.Sound.{call_brings}
use Rattle.cat_core.proofs.Standing.{stands}
use Rattle.cat_core.proofs.UnderWay.{headed_inside, swept_made}
use Rattle.cat_core.proofs.Waiting.{none_of_none}
use Rattle.cat_core.proofs.store.Store.refer_up.Goals as goal

pub refer-made-requires-clause-up : goal.refer-made-requires-clause-up
refer-made-requires-clause-up g c κs within =
    let laws = g.met.K.Keeper g.world.𝓛 g.world.𝓜 g.world.𝓡 ((λ s x. x), (λ x. x), (λ x. x), λ x. x) in
    down_none g.K.Keeper.down c.self.inside.keeper c.self.inside.fallen c.self.invariant.0.fallen
    (up_inside g.K.Keeper.down g.K.Keeper.in_flight laws.flies laws.waits c.self.inside.keeper c.self.inside.fallen c.self.invariant.0.fallen _ _ c.self.view_is refl c.requires.up)

pub invariant_of-self : goal.invariant_of-self
invariant_of-self g c =
    let brings = call_brings c.args.caller c.args.moment c.self.inside.ledger c.args.command.now c.requires.well_made c.requires.opens in
    let laws = g.met.K.Keeper g.world.𝓛 g.world.𝓜 g.world.𝓡 ((λ s x. x), (λ x. x), (λ x. x), λ x. x) in
    let both = stands g.K.Keeper
    c.self.inside.keeper c.refer-made.new.keeper c.args.caller 0 (call_on sha256 c.args.caller c.self.inside.ledger c.args.command.now c.args.moment) c.self.inside.start c.self.inside.ledger c.refer-made.new.self _ c.self.inside.sweep c.self.inside.fallen c.tell.new.fallen c.refer-made.result
    (right_attempt c.self.inside.ledger (in_next c.args.caller c.args.moment) c.args.command.now)
    brings
    (none_comes (opened_held c.self.inside.ledger.base c.self.inside.start)) (omega arith)
    (none_of_none c.self.inside.start.draft c.self.inside.ledger.draft c.self.inside.ledger.log _ c.self.invariant.1.waiting)
    (none_told (opened_held c.self.inside.ledger.base c.self.inside.start) (g.K.Keeper.told c.self.inside.keeper))
    (λ ps is stand. call_swept _ c.self.inside.ledger (in_next c.args.caller c.args.moment) c.args.command.now)
    (up_inside g.K.Keeper.down g.K.Keeper.in_flight laws.flies laws.waits c.self.inside.keeper c.self.inside.fallen c.self.invariant.0.fallen _ _ c.self.view_is refl c.requires.up)
    c.tell.ensures.fallen c.refer-made.ensures.kept c.refer-made.ensures.call c.refer-made.ensures.keeps (c.self.invariant.0, c.self.invariant.1, c.self.invariant.4)
    in (
      both.0,
      both.1,
      swept_made c.args.caller 0 c.self.inside.ledger (opened_held c.self.inside.ledger.base c.self.inside.start) _ c.self.inside.sweep c.self.inside.closed c.self.invariant.1 (headed_inside _ _ c.self.view_is c.knows_heads.ensures.heads) c.self.invariant.2 c.refer-made.new.self _ c.refer-made.result brings c.refer-made.ensures.call,
      holding_made c.args.caller 0 c.self.inside.ledger (opened_held c.self.inside.ledger.base c.self.inside.start) _ _ c.self.invariant.1 c.self.invariant.2.named c.self.invariant.3 c.refer-made.new.self _ c.refer-made.result brings
          (keeps_all c.self.inside.ledger.state (call_on sha256 c.args.caller c.self.inside.ledger c.args.command.now c.args.moment).state _ (attempt_keeps c.self.inside.ledger (in_next c.args.caller c.args.moment) c.args.command.now))
          (subst (λ (s : State). AreLinked s.commits) c.catalogue.ensures c.commits_are_linked.ensures) c.refer-made.ensures.call,
      both.2,
    )

pub returns : goal.returns
returns g c =
    let laws = g.met.K.Keeper g.world.𝓛 g.world.𝓜 g.world.𝓡 ((λ s x. x), (λ x. x), (λ x. x), λ x. x) in
    let none = up_inside g.K.Keeper.down g.K.Keeper.in_flight laws.flies laws.waits c.self.inside.keeper c.self.inside.fallen c.self.invariant.0.fallen _ _ c.self.view_is refl c.requires.up in
    all_told g.K.Keeper laws.safe laws.only_now
    c.args.caller c.self.inside.ledger c.refer-made.new.self c.self.inside.keeper c.refer-made.new.keeper c.self.inside.drafter c.self.inside.dropped c.self.inside.expired c.self.inside.drafts.items c.self.inside.sweep c.self.inside.closed c.self.inside.start
    (λ b. call_on sha256 c.args.caller b c.args.command.now c.args.moment) (right_attempt c.self.inside.ledger (in_next c.args.caller c.args.moment) c.args.command.now) 0
    (call_brings c.args.caller c.args.moment c.self.inside.ledger c.args.command.now c.requires.well_made c.requires.opens)
    c.self.inside.fallen c.tell.new.fallen _ _ c.place-place.result c.refer-made.result c.tell.result none c.tell.ensures.fallen c.self.view_is refl c.place-place.ensures c.tell.ensures.told
    (down_none g.K.Keeper.down c.self.inside.keeper c.self.inside.fallen c.self.invariant.0.fallen none)
    c.refer-made.ensures.call c.refer-made.ensures.keeps
