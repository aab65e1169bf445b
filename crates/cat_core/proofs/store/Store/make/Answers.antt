use Rattle.std.proofs.Common.{refl, subst, arith}
use Rattle.sha2.specs.Sha256.{sha256}
use Rattle.cat_checks.specs.HistoryLaws.{above_comes}
use Rattle.cat_decisions.specs.Builds.{command_of}
use Rattle.cat_model.specs.Book.{attempt_on}
use Rattle.cat_graph.specs.Linked.{AreLinked}
use Rattle.cat_model.specs.Calls.{in_draft}
use Rattle.cat_model.specs.State.{State}
use Rattle.cat_core.specs.LoggedLaws.{call_opens}
use Rattle.cat_core.specs.Stored.{opened_held}
use Rattle.cat_core.proofs.Grown.{attempt_keeps}
use Rattle.cat_core.proofs.Behind.{call_swept}
use Rattle.cat_core.proofs.Held.{free_inside}
use Rattle.cat_core.proofs.InStep.{right_attempt}
use Rattle.cat_core.proofs.Lasting.{holding_made, keeps_all}
use Rattle.cat_core.proofs.Making.{all_told, down_none, up_inside}
use Rattle.cat_core.proofs.Sound.{made_brings}
use Rattle.cat_core.proofs.Standing.{stands}
use Rattle.cat_core.proofs.UnderWay.{headed_inside, swept_made}
use Rattle.cat_core.proofs.store.Store.make.Goals as goal

pub settle-made-requires-clause-up : goal.settle-made-requires-clause-up
settle-made-requires-clause-up g c κs within =
    let laws = g.met.K.Keeper g.world.𝓛 g.world.𝓜 g.world.𝓡 ((λ s x. x), (λ x. x), (λ x. x), λ x. x) in
    down_none g.K.Keeper.down c.self.inside.keeper c.self.inside.fallen c.self.invariant.0.fallen
    (up_inside g.K.Keeper.down g.K.Keeper.in_flight laws.flies laws.waits c.self.inside.keeper c.self.inside.fallen c.self.invariant.0.fallen _ _ c.self.view_is refl c.requires.up)

pub invariant_of-self : goal.invariant_of-self
invariant_of-self g c =
    let laws = g.met.K.Keeper g.world.𝓛 g.world.𝓜 g.world.𝓡 ((λ s x. x), (λ x. x), (λ x. x), λ x. x) in
    let free = free_inside g.K.Keeper c.args.number _ _ c.self.view_is c.requires.free in
    let brings = made_brings c.args.caller c.args.number c.args.moment c.args.opened c.self.inside.ledger (command_of c.args.call) c.requires.well_made (call_opens c.args.call) (omega (arith, free.above)) free.below free.new in
    let both = stands g.K.Keeper
    c.self.inside.keeper c.settle-made.new.keeper c.args.caller c.args.number (attempt_on sha256 c.self.inside.ledger (in_draft c.args.caller c.args.moment c.args.number c.args.opened) (command_of c.args.call)) c.self.inside.start c.self.inside.ledger c.settle-made.new.self _ c.self.inside.sweep c.self.inside.fallen c.tell.new.fallen c.settle-made.result
    (right_attempt c.self.inside.ledger (in_draft c.args.caller c.args.moment c.args.number c.args.opened) (command_of c.args.call))
    brings
    (above_comes (opened_held c.self.inside.ledger.base c.self.inside.start) c.args.number free.above) free.below free.none free.follows
    (λ ps is stand. call_swept _ c.self.inside.ledger (in_draft c.args.caller c.args.moment c.args.number c.args.opened) (command_of c.args.call))
    (up_inside g.K.Keeper.down g.K.Keeper.in_flight laws.flies laws.waits c.self.inside.keeper c.self.inside.fallen c.self.invariant.0.fallen _ _ c.self.view_is refl c.requires.up)
    c.tell.ensures.fallen c.settle-made.ensures.kept c.settle-made.ensures.call c.settle-made.ensures.keeps (c.self.invariant.0, c.self.invariant.1, c.self.invariant.4)
    in (
      both.0,
      both.1,
      swept_made c.args.caller c.args.number c.self.inside.ledger (opened_held c.self.inside.ledger.base c.self.inside.start) _ c.self.inside.sweep c.self.inside.closed c.self.invariant.1 (headed_inside _ _ c.self.view_is c.knows_heads.ensures.heads) c.self.invariant.2 c.settle-made.new.self _ c.settle-made.result brings c.settle-made.ensures.call,
      holding_made c.args.caller c.args.number c.self.inside.ledger (opened_held c.self.inside.ledger.base c.self.inside.start) _ _ c.self.invariant.1 c.self.invariant.2.named c.self.invariant.3 c.settle-made.new.self _ c.settle-made.result brings
          (keeps_all c.self.inside.ledger.state (attempt_on sha256 c.self.inside.ledger (in_draft c.args.caller c.args.moment c.args.number c.args.opened) (command_of c.args.call)).state _ (attempt_keeps c.self.inside.ledger (in_draft c.args.caller c.args.moment c.args.number c.args.opened) (command_of c.args.call)))
          (subst (λ (s : State). AreLinked s.commits) c.catalogue.ensures c.commits_are_linked.ensures) c.settle-made.ensures.call,
      both.2,
    )

pub returns : goal.returns
returns g c =
    let laws = g.met.K.Keeper g.world.𝓛 g.world.𝓜 g.world.𝓡 ((λ s x. x), (λ x. x), (λ x. x), λ x. x) in
    let none = up_inside g.K.Keeper.down g.K.Keeper.in_flight laws.flies laws.waits c.self.inside.keeper c.self.inside.fallen c.self.invariant.0.fallen _ _ c.self.view_is refl c.requires.up in
    let free = free_inside g.K.Keeper c.args.number _ _ c.self.view_is c.requires.free in
    all_told g.K.Keeper laws.safe laws.only_now
    c.args.caller c.self.inside.ledger c.settle-made.new.self c.self.inside.keeper c.settle-made.new.keeper c.self.inside.drafter c.self.inside.dropped c.self.inside.expired c.self.inside.drafts.items c.self.inside.sweep c.self.inside.closed c.self.inside.start
    (λ b. attempt_on sha256 b (in_draft c.args.caller c.args.moment c.args.number c.args.opened) (command_of c.args.call)) (right_attempt c.self.inside.ledger (in_draft c.args.caller c.args.moment c.args.number c.args.opened) (command_of c.args.call)) c.args.number
    (made_brings c.args.caller c.args.number c.args.moment c.args.opened c.self.inside.ledger (command_of c.args.call) c.requires.well_made (call_opens c.args.call) (omega (arith, free.above)) free.below free.new)
    c.self.inside.fallen c.tell.new.fallen _ _ c.place-place.result c.settle-made.result c.tell.result none c.tell.ensures.fallen c.self.view_is refl c.place-place.ensures c.tell.ensures.told
    (down_none g.K.Keeper.down c.self.inside.keeper c.self.inside.fallen c.self.invariant.0.fallen none)
    c.settle-made.ensures.call c.settle-made.ensures.keeps
