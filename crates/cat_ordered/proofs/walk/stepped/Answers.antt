use Rattle.std.proofs.Common.{◌<◌, length, sym, ◌∙◌, arith}
use Rattle.std.proofs.lemmas.Bool.{eqb-true, eqb-false}
use Rattle.cat_ordered.proofs.Steps.{step_rest, step_over}
use Rattle.cat_ordered.proofs.walk.stepped.Goals as goal

pub returns-then-is_empty-clause-left : goal.returns-then-is_empty-clause-left
returns-then-is_empty-clause-left g c =
    c.block_from.ensures.whole ∙ step_over c.args.map.now c.args.block.now c.rest_of-rest.result.now c.args.next c.requires.some c.rest_of-rest.ensures (eqb-true _ 0 (sym c.is_empty.ensures ∙ c.if-is_empty.true))

pub returns : goal.returns
returns g c =
    let some : 0 < length c.rest_of-rest.result.now = omega (arith, eqb-false _ 0 (sym c.is_empty.ensures ∙ c.if-is_empty.false)) in
    record {
      left = step_rest c.args.map.now c.args.block.now c.rest_of-rest.result.now c.args.next c.requires.some c.rest_of-rest.ensures;
      walk = record { within = c.requires.within; some = λ lt. some };
    }
