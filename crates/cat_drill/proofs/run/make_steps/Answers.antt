use Rattle.std.proofs.Common.{◌∙◌}
use Rattle.cat_drill.proofs.Stepping.{stepped}
use Rattle.cat_drill.proofs.Turns.{alone_on, keeps_on}
use Rattle.cat_drill.proofs.run.make_steps.Goals as goal

pub make_step-requires-clause-alone : goal.make_step-requires-clause-alone
make_step-requires-clause-alone g c = alone_on c.args.desk.now c.args.pass.now _ c.steps.invariant.kept c.requires.alone

pub make_step-requires-clause-number : goal.make_step-requires-clause-number
make_step-requires-clause-number g c = c.steps.invariant.kept.number ∙ c.requires.number

pub steps-preserved : goal.steps-preserved
steps-preserved g c =
    let on = stepped c.args.seed c.steps.made c.steps.number c.next_number-number.result _ _ c.steps.invariant.number c.steps.invariant.book c.next_number-number.ensures c.in-Ok.ensures.step in
    record {
      number = on.0;
      book = on.1;
      clock = c.in-Ok.ensures.clock;
      ready = c.in-Ok.ensures.ready;
      kept = keeps_on c.args.desk.now c.args.pass.now _ _ c.steps.invariant.kept c.in-Ok.ensures.kept;
    }
