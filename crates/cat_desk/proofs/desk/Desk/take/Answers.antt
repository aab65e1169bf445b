use Rattle.std.proofs.Common.{rules, ◌∷◌, Some, sym, ap, subst, ◌∙◌}
use Rattle.atomic_table.specs.Table.{rest}
use Rattle.cat_desk.specs.Rule.{TookAt}
use Rattle.cat_desk.proofs.Keeps.{takes_value, found_out}
use Rattle.cat_desk.proofs.desk.Desk.take.Goals as goal

pub load-requires : goal.load-requires
load-requires g c = (search rules, search rules, takes_value _ _ _ _ _ _ _ _ _ c.requires.1 c.requires.2)

pub exchange-requires : goal.exchange-requires
exchange-requires g c =
    let t = subst (TookAt g.V.Logged.log g.V.Logged.opened g.V.Logged.legal g.V.Logged.mark g.V.Logged.left_open c.args.seat.me c.load.new.seat.me) c.requires.1 c.load.ensures.2 in
    (search rules, (Some t.0, t.1.0 ∙ sym (ap (λ l. (0, Some t.0) ∷ rest l) t.1.0)))

pub returns-clause-found : goal.returns-clause-found
returns-clause-found g c =
    let t = subst (TookAt g.V.Logged.log g.V.Logged.opened g.V.Logged.legal g.V.Logged.mark g.V.Logged.left_open c.args.seat.me c.load.new.seat.me) c.requires.1 c.load.ensures.2 in
    found_out g.V.Logged.log g.V.Logged.opened g.V.Logged.legal g.V.Logged.mark g.V.Logged.left_open t.0 c.args.seat.me c.load.new.seat.me c.exchange.new.seat.me.0 t.0 c.in-Some.value t.1 (ap (λ m. m.0) c.exchange.ensures.3) (search rules)
