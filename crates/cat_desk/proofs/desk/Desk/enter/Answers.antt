use Rattle.std.proofs.Common.{rules, sym, subst}
use Rattle.cat_model.specs.TurnLaws.{acts_self}
use Rattle.cat_desk.proofs.Keeps.{draws}
use Rattle.cat_desk.proofs.Passes.{free_view, found_is}
use Rattle.cat_desk.proofs.desk.Desk.enter.Goals as goal

pub fetch_add-ticket-requires : goal.fetch_add-ticket-requires
fetch_add-ticket-requires g c = let f = free_view c.args.self.now c.args.pass.now c.into_seat-seat.result.me.0 c.requires (search rules) in (search rules, search rules, draws _ _ _ _ _ _ _ _ _ f.idle)

pub returns-clause-legal : goal.returns-clause-legal
returns-clause-legal g c = c.take.ensures.found.4 (c.args.self.now.opened, c.args.self.now.begun) (search rules)

pub returns-clause-found : goal.returns-clause-found
returns-clause-found g c = let begins = c.take.ensures.found.4 (c.args.self.now.opened, c.args.self.now.begun) (search rules) in
    found_is g.V.Logged.opened g.V.Logged.log g.V.Logged.mark g.V.Logged.left_open c.args.self.now c.take.result c.wait.new.seat.me.0 c.take.ensures.kept.2 (sym begins.0)

pub returns-clause-still : goal.returns-clause-still
returns-clause-still g c = let begins = c.take.ensures.found.4 (c.args.self.now.opened, c.args.self.now.begun) (search rules) in
    acts_self _ _ _ _ (found_is g.V.Logged.opened g.V.Logged.log g.V.Logged.mark g.V.Logged.left_open c.args.self.now c.take.result c.wait.new.seat.me.0 c.take.ensures.kept.2 (sym begins.0)) (subst (λ o. g.V.Logged.legal o (g.V.Logged.log c.take.result.value)) (sym begins.0) begins.1)
