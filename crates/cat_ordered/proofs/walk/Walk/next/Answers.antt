use Rattle.std.proofs.Common.{◌≡◌, [], drop, sym, ap, ◌∙◌}
use Rattle.std.proofs.lemmas.Bool.{eqb-true}
use Rattle.cat_ordered.proofs.Steps.{at_end, none_after}
use Rattle.cat_ordered.proofs.walk.Walk.next.Goals as goal

pub returns-then-is_empty-clause-left : goal.returns-then-is_empty-clause-left
returns-then-is_empty-clause-left g c =
    let none : c.args.self.now ≡ [] = sym c.self.view_is ∙ at_end c.self.inside.map.now c.self.inside.block.now c.self.inside.next c.self.invariant (eqb-true _ 0 (sym c.is_empty.ensures ∙ c.if-is_empty.true)) in
    none_after c.args.self.now _ none (cc)

pub returns-clause-left : goal.returns-clause-left
returns-clause-left g c = c.stepped-next.ensures.left ∙ ap (drop 1) c.self.view_is
