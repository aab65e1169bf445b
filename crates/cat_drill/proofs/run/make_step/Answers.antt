use Rattle.cat_drill.proofs.Turns.{keeps_on, map_ok, step_made}
use Rattle.cat_drill.proofs.run.make_step.Goals as goal

pub returns-in-Ok-clause-step : goal.returns-in-Ok-clause-step
returns-in-Ok-clause-step g c =
    map_ok _ _ c.carry_out.result (λ made. (step_made c.args.made c.args.number c.in-Ok.command _ _ _ _ _ c.requires.made c.requires.clock c.in-Ok.ensures.command c.in-Ok.ensures.book made).0) c.carry_out.ensures.made

pub returns-in-Ok-clause-clock : goal.returns-in-Ok-clause-clock
returns-in-Ok-clause-clock g c =
    map_ok _ _ c.carry_out.result (λ made. (step_made c.args.made c.args.number c.in-Ok.command _ _ _ _ _ c.requires.made c.requires.clock c.in-Ok.ensures.command c.in-Ok.ensures.book made).1) c.carry_out.ensures.made

pub returns-in-Ok-clause-kept : goal.returns-in-Ok-clause-kept
returns-in-Ok-clause-kept g c = keeps_on c.args.desk.now c.args.pass.now _ _ c.in-Ok.ensures.kept c.carry_out.ensures.kept
