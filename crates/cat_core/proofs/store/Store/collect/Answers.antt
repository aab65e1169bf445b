use Rattle.std.proofs.Common.{arith, refl, subst}
use Rattle.cat_checks.specs.HistoryLaws.{none_comes}
use Rattle.cat_graph.specs.Linked.{AreLinked}
use Rattle.cat_model.specs.State.{State}
use Rattle.cat_core.specs.Sweeps.{sweep_in, sweep_on}
use Rattle.cat_core.specs.Stored.{opened_held}
use Rattle.cat_core.proofs.Behind.{none_told, start_inside, sweep_told}
use Rattle.cat_core.proofs.Lasting.{holding_made, sweep_on_spares, told_inside}
use Rattle.cat_core.proofs.Making.{all_told, down_none, up_inside}
use Rattle.cat_core.proofs.Removing.{sweep_brings, sweep_right}
use Rattle.cat_core.proofs.Standing.{stands}
use Rattle.cat_core.proofs.UnderWay.{headed_inside, may_inside, marked_inside, swept_made, walked_inside}
use Rattle.cat_core.proofs.Waiting.{none_of_none}
use Rattle.cat_core.proofs.store.Store.collect.Goals as goal

pub collect-made-requires-clause-marked : goal.collect-made-requires-clause-marked
collect-made-requires-clause-marked g c κs within = marked_inside _ _ c.self.view_is (sweep_in c.args.closing) c.args.marks.set c.args.roots.now c.requires.marked

pub collect-made-requires-clause-walked : goal.collect-made-requires-clause-walked
collect-made-requires-clause-walked g c κs within = walked_inside _ _ c.self.view_is c.args.marks c.requires.walked

pub collect-made-requires-clause-up : goal.collect-made-requires-clause-up
collect-made-requires-clause-up g c κs within =
    let laws = g.met.K.Keeper g.world.𝓛 g.world.𝓜 g.world.𝓡 ((λ s x. x), (λ x. x), (λ x. x), λ x. x) in
    down_none g.K.Keeper.down c.self.inside.keeper c.self.inside.fallen c.self.invariant.0.fallen
    (up_inside g.K.Keeper.down g.K.Keeper.in_flight laws.flies laws.waits c.self.inside.keeper c.self.inside.fallen c.self.invariant.0.fallen _ _ c.self.view_is refl c.requires.up)

pub invariant_of-self : goal.invariant_of-self
invariant_of-self g c =
    let caller = c.args.closing.ticket.caller in
    let brings = sweep_brings caller c.args.moment c.self.inside.ledger (sweep_in c.args.closing) (may_inside _ _ c.self.view_is (sweep_in c.args.closing) c.requires.may) in
    let laws = g.met.K.Keeper g.world.𝓛 g.world.𝓜 g.world.𝓡 ((λ s x. x), (λ x. x), (λ x. x), λ x. x) in
    let both = stands g.K.Keeper
    c.self.inside.keeper c.collect-made.new.keeper caller 0 (sweep_on caller c.self.inside.ledger c.args.moment (sweep_in c.args.closing)) c.self.inside.start c.self.inside.ledger c.collect-made.new.self _ c.self.inside.sweep c.self.inside.fallen c.tell.new.fallen c.collect-made.result
    (sweep_right caller c.args.moment c.self.inside.ledger (sweep_in c.args.closing))
    brings
    (none_comes (opened_held c.self.inside.ledger.base c.self.inside.start)) (omega arith)
    (none_of_none c.self.inside.start.draft c.self.inside.ledger.draft c.self.inside.ledger.log _ c.self.invariant.1.waiting)
    (none_told (opened_held c.self.inside.ledger.base c.self.inside.start) (g.K.Keeper.told c.self.inside.keeper))
    (sweep_told g.K.Keeper laws.counted (opened_held c.self.inside.ledger.base c.self.inside.start) c.self.inside.ledger _ c.self.inside.keeper caller c.args.moment (sweep_in c.args.closing)
    c.self.invariant.1 c.self.invariant.0.number (start_inside g.K.Keeper.start _ _ c.self.view_is c.args.closing.ticket.place c.requires.since))
    (up_inside g.K.Keeper.down g.K.Keeper.in_flight laws.flies laws.waits c.self.inside.keeper c.self.inside.fallen c.self.invariant.0.fallen _ _ c.self.view_is refl c.requires.up)
    c.tell.ensures.fallen c.collect-made.ensures.kept c.collect-made.ensures.call c.collect-made.ensures.keeps (c.self.invariant.0, c.self.invariant.1, c.self.invariant.4)
    in (
      both.0,
      both.1,
      swept_made caller 0 c.self.inside.ledger (opened_held c.self.inside.ledger.base c.self.inside.start) _ c.self.inside.sweep c.self.inside.closed c.self.invariant.1 (headed_inside _ _ c.self.view_is c.knows_heads.ensures.heads) c.self.invariant.2 c.collect-made.new.self _ c.collect-made.result brings c.collect-made.ensures.call,
      holding_made caller 0 c.self.inside.ledger (opened_held c.self.inside.ledger.base c.self.inside.start) _ _ c.self.invariant.1 c.self.invariant.2.named c.self.invariant.3 c.collect-made.new.self _ c.collect-made.result brings
          (sweep_on_spares caller c.self.inside.ledger c.args.moment (sweep_in c.args.closing) _ (told_inside _ _ c.self.view_is (sweep_in c.args.closing) c.requires.told))
          (subst (λ (s : State). AreLinked s.commits) c.catalogue.ensures c.commits_are_linked.ensures) c.collect-made.ensures.call,
      both.2,
    )

pub returns : goal.returns
returns g c =
    let caller = c.args.closing.ticket.caller in
    let laws = g.met.K.Keeper g.world.𝓛 g.world.𝓜 g.world.𝓡 ((λ s x. x), (λ x. x), (λ x. x), λ x. x) in
    let none = up_inside g.K.Keeper.down g.K.Keeper.in_flight laws.flies laws.waits c.self.inside.keeper c.self.inside.fallen c.self.invariant.0.fallen _ _ c.self.view_is refl c.requires.up in
    all_told g.K.Keeper laws.safe laws.only_now
    caller c.self.inside.ledger c.collect-made.new.self c.self.inside.keeper c.collect-made.new.keeper c.self.inside.drafter c.self.inside.dropped c.self.inside.expired c.self.inside.drafts.items c.self.inside.sweep c.self.inside.closed c.self.inside.start
    (λ b. sweep_on caller b c.args.moment (sweep_in c.args.closing)) (sweep_right caller c.args.moment c.self.inside.ledger (sweep_in c.args.closing)) 0
    (sweep_brings caller c.args.moment c.self.inside.ledger (sweep_in c.args.closing) (may_inside _ _ c.self.view_is (sweep_in c.args.closing) c.requires.may))
    c.self.inside.fallen c.tell.new.fallen _ _ c.place-place.result c.collect-made.result c.tell.result none c.tell.ensures.fallen c.self.view_is refl c.place-place.ensures c.tell.ensures.told
    (down_none g.K.Keeper.down c.self.inside.keeper c.self.inside.fallen c.self.invariant.0.fallen none)
    c.collect-made.ensures.call c.collect-made.ensures.keeps
