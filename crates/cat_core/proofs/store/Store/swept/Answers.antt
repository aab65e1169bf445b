use Rattle.std.proofs.Common.{refl, rules}
use Rattle.cat_core.proofs.Ending.{drops_it, closes_it, ended_down, ended_made, ended_short, logged_it, marked_it, may_it, since_it, up_it, walked_it}
use Rattle.cat_core.proofs.Lasting.{told_it}
use Rattle.cat_core.proofs.Making.{up_seen}
use Rattle.cat_core.proofs.store.Store.swept.Goals as goal

pub returns-in-Some : goal.returns-in-Some
returns-in-Some g c = λ o is.
    let laws = g.met.K.Keeper g.world.𝓛 g.world.𝓜 g.world.𝓡 ((λ s x. x), (λ x. x), (λ x. x), λ x. x) in
    ended_down g.K.Keeper laws.safe laws.only_now c.args.self.now c.shut.new.self o c.args.moment
    (up_seen g.K.Keeper.down g.K.Keeper.in_flight laws.flies laws.waits c.self.inside.fallen _ _ c.self.view_is c.self.invariant.0.fallen refl)
    c.place-place.result c.in-Some.count c.down_at.result (search rules) (search rules) (search rules) (drops_it c.args.self.now c.shut.new.self _ o is c.shut.ensures.shut)

pub returns-in-Ok : goal.returns-in-Ok
returns-in-Ok g c = λ o is.
    let laws = g.met.K.Keeper g.world.𝓛 g.world.𝓜 g.world.𝓡 ((λ s x. x), (λ x. x), (λ x. x), λ x. x) in
    ended_made g.K.Keeper laws.safe laws.only_now c.args.self.now c.collect.new.self o c.args.moment
    (up_seen g.K.Keeper.down g.K.Keeper.in_flight laws.flies laws.waits c.self.inside.fallen _ _ c.self.view_is c.self.invariant.0.fallen refl)
    (search rules) c.shut-closing.new.self c.shut-closing.result c.collect.result (drops_it c.args.self.now c.shut-closing.new.self _ o is c.shut-closing.ensures.shut) (closes_it _ o c.shut-closing.result is c.shut-closing.ensures.closing) c.collect.ensures

pub returns-in-Err : goal.returns-in-Err
returns-in-Err g c = λ o is.
    let laws = g.met.K.Keeper g.world.𝓛 g.world.𝓜 g.world.𝓡 ((λ s x. x), (λ x. x), (λ x. x), λ x. x) in
    ended_short g.K.Keeper laws.safe laws.only_now c.args.self.now c.shut-in-Err.new.self o c.args.moment
    (up_seen g.K.Keeper.down g.K.Keeper.in_flight laws.flies laws.waits c.self.inside.fallen _ _ c.self.view_is c.self.invariant.0.fallen refl)
    c.no_memory.result (search rules) (drops_it c.args.self.now c.shut-in-Err.new.self _ o is c.shut-in-Err.ensures.shut)

pub collect-requires-clause-up : goal.collect-requires-clause-up
collect-requires-clause-up g c κs within =
    up_it c.args.self.now c.shut-closing.new.self c.requires.is_open.0 c.shut-closing.result c.requires.is_open.1 c.shut-closing.ensures.closing c.shut-closing.ensures.shut (search rules)

pub collect-requires-clause-may : goal.collect-requires-clause-may
collect-requires-clause-may g c κs within =
    may_it c.args.self.now c.shut-closing.new.self c.requires.is_open.0 c.shut-closing.result c.requires.is_open.1 c.shut-closing.ensures.closing c.shut-closing.ensures.shut c.is_sound.ensures.closes

pub collect-requires-clause-logged : goal.collect-requires-clause-logged
collect-requires-clause-logged g c κs within =
    logged_it c.args.self.now c.shut-closing.new.self c.requires.is_open.0 c.shut-closing.result c.requires.is_open.1 c.shut-closing.ensures.closing c.shut-closing.ensures.shut c.is_sound.ensures.closes

pub collect-requires-clause-told : goal.collect-requires-clause-told
collect-requires-clause-told g c κs within =
    told_it c.args.self.now c.shut-closing.new.self c.requires.is_open.0 c.shut-closing.result c.requires.is_open.1 c.shut-closing.ensures.closing c.shut-closing.ensures.shut c.is_sound.ensures.holding

pub collect-requires-clause-since : goal.collect-requires-clause-since
collect-requires-clause-since g c κs within =
    since_it c.args.self.now c.shut-closing.new.self c.requires.is_open.0 c.shut-closing.result c.requires.is_open.1 c.shut-closing.ensures.closing c.shut-closing.ensures.shut g.K.Keeper.start c.shut-closing.ensures.since

pub collect-requires-clause-marked : goal.collect-requires-clause-marked
collect-requires-clause-marked g c κs within =
    let o = c.requires.is_open.0 in
    marked_it c.args.self.now c.shut-closing.new.self o c.shut-closing.result c.requires.is_open.1 c.shut-closing.ensures.closing c.shut-closing.ensures.shut c.args.marks.set c.in-Ok.roots (c.requires.marks o c.requires.is_open.1) (search rules)

pub collect-requires-clause-walked : goal.collect-requires-clause-walked
collect-requires-clause-walked g c κs within =
    walked_it c.args.self.now c.shut-closing.new.self c.requires.is_open.0 c.shut-closing.result c.requires.is_open.1 c.shut-closing.ensures.closing c.shut-closing.ensures.shut c.args.marks c.requires.walked
