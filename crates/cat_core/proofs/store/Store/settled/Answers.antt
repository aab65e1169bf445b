use Rattle.std.proofs.Common.{refl, rules, sym, ◌∙◌}
use Rattle.cat_core.proofs.Making.{up_seen}
use Rattle.cat_core.proofs.Settling.{settled_done, settled_down, settled_expired, settled_moved, settled_refused, settled_unmade}
use Rattle.cat_core.proofs.store.Store.settled.Goals.{then-is_expired, else-is_expired}
use Rattle.cat_core.proofs.store.Store.settled.Goals as goal

pub returns-in-Some : goal.returns-in-Some
returns-in-Some g c =
    let laws = g.met.K.Keeper g.world.𝓛 g.world.𝓜 g.world.𝓡 ((λ s x. x), (λ x. x), (λ x. x), λ x. x) in
    settled_down g.K.Keeper laws.safe laws.only_now
    c.args.self.now _ c.args.draft c.args.built c.args.moment (up_seen g.K.Keeper.down g.K.Keeper.in_flight laws.flies laws.waits c.self.inside.fallen _ _ c.self.view_is c.self.invariant.0.fallen refl)
    c.place-place.result c.in-Some.count _ (search rules) (search rules) (search rules) (search rules)

pub returns-in-Err : goal.returns-in-Err
returns-in-Err g c =
    let laws = g.met.K.Keeper g.world.𝓛 g.world.𝓜 g.world.𝓡 ((λ s x. x), (λ x. x), (λ x. x), λ x. x) in
    settled_refused g.K.Keeper laws.safe laws.only_now
    c.args.self.now _ c.args.draft c.args.built c.args.moment (up_seen g.K.Keeper.down g.K.Keeper.in_flight laws.flies laws.waits c.self.inside.fallen _ _ c.self.view_is c.self.invariant.0.fallen refl)
    c.place-place.result c.in-Err.why _ (search rules) (search rules) (search rules) (search rules) (search rules)

pub returns-then-ne : goal.returns-then-ne
returns-then-ne g c =
    let laws = g.met.K.Keeper g.world.𝓛 g.world.𝓜 g.world.𝓡 ((λ s x. x), (λ x. x), (λ x. x), λ x. x) in
    settled_moved g.K.Keeper laws.safe laws.only_now
    c.args.self.now _ c.args.draft c.args.built c.args.moment (up_seen g.K.Keeper.down g.K.Keeper.in_flight laws.flies laws.waits c.self.inside.fallen _ _ c.self.view_is c.self.invariant.0.fallen refl)
    c.head_of.result c.moved.result (search rules) (search rules) (search rules) (search rules) c.moved.ensures

pub returns-in-Ok : goal.returns-in-Ok
returns-in-Ok g c =
    let laws = g.met.K.Keeper g.world.𝓛 g.world.𝓜 g.world.𝓡 ((λ s x. x), (λ x. x), (λ x. x), λ x. x) in
    settled_done g.K.Keeper laws.safe laws.only_now
    c.args.self.now _ c.args.draft c.args.built c.args.moment (up_seen g.K.Keeper.down g.K.Keeper.in_flight laws.flies laws.waits c.self.inside.fallen _ _ c.self.view_is c.self.invariant.0.fallen refl)
    (search rules) c.close-call.new.self (search rules) (search rules) c.in-Ok.told (search rules)

pub returns-after-is_expired : goal.returns-after-is_expired
returns-after-is_expired g c =
    let laws = g.met.K.Keeper g.world.𝓛 g.world.𝓜 g.world.𝓡 ((λ s x. x), (λ x. x), (λ x. x), λ x. x) in
    elim c.if-is_expired.branch [
      | then-is_expired w ↦
          settled_expired g.K.Keeper laws.safe laws.only_now
          c.args.self.now c.if-is_expired.self c.args.draft c.args.built c.args.moment (up_seen g.K.Keeper.down g.K.Keeper.in_flight laws.flies laws.waits c.self.inside.fallen _ _ c.self.view_is c.self.invariant.0.fallen refl)
          (search rules) c.close-call.new.self c.is_built_now.ensures.on (search rules) c.in-Err-make.refused c.make.new.self (sym c.is_expired.ensures ∙ w.if-is_expired.true) (search rules) (search rules)
      | else-is_expired w ↦
          settled_unmade g.K.Keeper laws.safe laws.only_now
          c.args.self.now c.if-is_expired.self c.args.draft c.args.built c.args.moment (up_seen g.K.Keeper.down g.K.Keeper.in_flight laws.flies laws.waits c.self.inside.fallen _ _ c.self.view_is c.self.invariant.0.fallen refl)
          (search rules) c.close-call.new.self c.is_built_now.ensures.on (search rules) c.in-Err-make.refused (sym c.is_expired.ensures ∙ w.if-is_expired.false) (search rules)
    ]
