use Rattle.std.proofs.Common.{sym, ◌∙◌}
use Rattle.cat_collect.proofs.Stages.{drained_on_marks, drained_own, drained_spent, drained_still, drained_walked, left_own, left_spent}
use Rattle.cat_collect.proofs.rounds.next_round.Goals as goal

pub give_up-requires-clause-own : goal.give_up-requires-clause-own
give_up-requires-clause-own g c κs within =
    left_own g.row.K.Denot c.args.desk.now c.args.pass.now c.drain.new.pass c.args.marking.sweep c.args.marking.marks c.requires.holds c.drain.ensures.kept c.in_default.ensures.stays

pub returns-in_default-clause-goes : goal.returns-in_default-clause-goes
returns-in_default-clause-goes g c = left_spent g.row.K.Denot c.args.desk.now c.args.pass.now c.drain.new.pass c.give_up.new.pass c.drain.ensures.kept c.drain.ensures.legal c.in_default.ensures.stays c.give_up.ensures.legal c.give_up.ensures.dropped

pub returns-then-is_nothing-clause-goes : goal.returns-then-is_nothing-clause-goes
returns-then-is_nothing-clause-goes g c =
    drained_still g.row.K.Denot c.args.desk.now c.args.pass.now c.drain.new.pass c.args.marking.sweep c.args.marking.marks c.in-Ok.roots c.in-Ok.view c.requires.holds c.in-Ok.ensures.kept c.in-Ok.ensures.legal c.in-Ok.ensures.drained (sym c.is_nothing.ensures ∙ c.if-is_nothing.true)

pub mark-requires-clause-walked : goal.mark-requires-clause-walked
mark-requires-clause-walked g c κs within = drained_walked g.row.K.Denot c.args.desk.now c.args.pass.now c.drain.new.pass c.args.marking.sweep c.args.marking.marks c.in-Ok.roots c.in-Ok.view c.requires.holds c.in-Ok.ensures.kept c.in-Ok.ensures.drained

pub give_up-requires-in-Err-clause-own : goal.give_up-requires-in-Err-clause-own
give_up-requires-in-Err-clause-own g c κs within = drained_own g.row.K.Denot c.args.desk.now c.args.pass.now c.drain.new.pass c.args.marking.sweep c.args.marking.marks c.in-Ok.roots c.in-Ok.view c.requires.holds c.in-Ok.ensures.kept c.in-Ok.ensures.drained

pub returns-in-Ok-mark-clause-goes : goal.returns-in-Ok-mark-clause-goes
returns-in-Ok-mark-clause-goes g c =
    drained_on_marks g.row.K.Denot c.args.desk.now c.args.pass.now c.drain.new.pass c.args.marking.sweep c.args.marking.marks c.mark.new.marks c.in-Ok.roots c.in-Ok.view c.requires.holds c.in-Ok.ensures.kept c.in-Ok.ensures.legal c.in-Ok.ensures.drained c.in-Ok-mark.ensures.adds c.in-Ok-mark.ensures.walked

pub returns-in-Err-clause-goes : goal.returns-in-Err-clause-goes
returns-in-Err-clause-goes g c =
    drained_spent g.row.K.Denot c.args.desk.now c.args.pass.now c.drain.new.pass c.give_up-in-Err.new.pass c.in-Ok.roots c.in-Ok.view c.in-Ok.ensures.kept c.in-Ok.ensures.legal c.in-Ok.ensures.drained c.give_up-in-Err.ensures.legal c.give_up-in-Err.ensures.dropped
