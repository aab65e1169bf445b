use Rattle.std.proofs.Common.{rules, refl, ap, ◌∙◌, inl}
use Rattle.cat_desk.specs.Sight.{View}
use Rattle.cat_desk.proofs.Passes.{carries, compares, free_view, holds_later, joins}
use Rattle.cat_desk.proofs.desk.Desk.join.Goals as goal

pub join_seat-requires : goal.join_seat-requires
join_seat-requires g c = let f = free_view c.args.self.now c.args.pass.now c.into_seat-seat.result.me.0 c.requires.free.0 (search rules) in
    let h = free_view c.args.self.now c.args.other c.into_seat.result.me.0 c.requires.free.1 (search rules) in
    (search rules, search rules, search rules, search rules, joins _ _ _ _ _ _ _ _ _ _ f.idle h.idle)

pub load-requires : goal.load-requires
load-requires g c = let f = free_view c.args.self.now c.args.pass.now c.into_seat-seat.result.me.0 c.requires.free.0 (search rules) in
    let same = ap (λ m. m.0) c.join_seat.ensures.2 in
    (search rules, search rules, compares _ _ _ _ _ _ _ _ _ (ap (λ (v : View). v.stage) same ∙ f.idle))

pub returns-clause-whole : goal.returns-clause-whole
returns-clause-whole g c =
    let f = free_view c.args.self.now c.args.pass.now c.into_seat-seat.result.me.0 c.requires.free.0 (search rules) in
    let h = free_view c.args.self.now c.args.other c.into_seat.result.me.0 c.requires.free.1 (search rules) in
    let t = carries c.args.self.now c.args.pass.now c.args.other c.into_seat-seat.result.me.0 c.into_seat.result.me.0 c.join_seat.new.seat.me.0 c.into_badge.result.views f h (ap (λ m. m.0) c.join_seat.ensures.2) c.load.ensures.2.1 (search rules) in
    let mine = (t.0 c.args.pass.now.number (inl refl)).1 in let its = (t.1 c.args.other.number (inl refl)).1 in ((mine.0, mine.1), (its.0, its.1))

pub returns-clause-follows : goal.returns-clause-follows
returns-clause-follows g c =
    let f = free_view c.args.self.now c.args.pass.now c.into_seat-seat.result.me.0 c.requires.free.0 (search rules) in
    let h = free_view c.args.self.now c.args.other c.into_seat.result.me.0 c.requires.free.1 (search rules) in
    let t = carries c.args.self.now c.args.pass.now c.args.other c.into_seat-seat.result.me.0 c.into_seat.result.me.0 c.join_seat.new.seat.me.0 c.into_badge.result.views f h (ap (λ m. m.0) c.join_seat.ensures.2) c.load.ensures.2.1 (search rules) in
    (t.0 c.args.pass.now.number (inl refl)).1

pub returns-clause-mark : goal.returns-clause-mark
returns-clause-mark g c =
    let f = free_view c.args.self.now c.args.pass.now c.into_seat-seat.result.me.0 c.requires.free.0 (search rules) in
    let h = free_view c.args.self.now c.args.other c.into_seat.result.me.0 c.requires.free.1 (search rules) in
    let t = holds_later c.args.self.now c.args.pass.now c.args.other c.into_seat-seat.result.me.0 c.into_seat.result.me.0 c.join_seat.new.seat.me.0 c.into_badge.result.views f h (ap (λ m. m.0) c.join_seat.ensures.2) (search rules) in
    (t.0, t.1)

pub returns-clause-grows : goal.returns-clause-grows
returns-clause-grows g c =
    let f = free_view c.args.self.now c.args.pass.now c.into_seat-seat.result.me.0 c.requires.free.0 (search rules) in
    let h = free_view c.args.self.now c.args.other c.into_seat.result.me.0 c.requires.free.1 (search rules) in
    let t = carries c.args.self.now c.args.pass.now c.args.other c.into_seat-seat.result.me.0 c.into_seat.result.me.0 c.join_seat.new.seat.me.0 c.into_badge.result.views f h (ap (λ m. m.0) c.join_seat.ensures.2) c.load.ensures.2.1 (search rules) in
    ((t.0 c.args.pass.now.number (inl refl)).2.grows, (t.1 c.args.other.number (inl refl)).2.grows)

pub returns-clause-carries : goal.returns-clause-carries
returns-clause-carries g c =
    let f = free_view c.args.self.now c.args.pass.now c.into_seat-seat.result.me.0 c.requires.free.0 (search rules) in
    let h = free_view c.args.self.now c.args.other c.into_seat.result.me.0 c.requires.free.1 (search rules) in
    let t = carries c.args.self.now c.args.pass.now c.args.other c.into_seat-seat.result.me.0 c.into_seat.result.me.0 c.join_seat.new.seat.me.0 c.into_badge.result.views f h (ap (λ m. m.0) c.join_seat.ensures.2) c.load.ensures.2.1 (search rules) in
    (t.0, t.1)
