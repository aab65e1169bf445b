use Rattle.std.proofs.Common.{List, subst}
use Rattle.cat_mark.specs.Marks.{AddsAll, live_of}
use Rattle.cat_names.specs.declared.hash.Hash.{Hash}
use Rattle.cat_collect.proofs.Stages.{opened_on, opened_spent}
use Rattle.cat_collect.proofs.rounds.begin.Goals as goal

pub returns-in-Ok-mark-clause-begun : goal.returns-in-Ok-mark-clause-begun
returns-in-Ok-mark-clause-begun g c =
    opened_on g.row.K.Denot c.args.desk.now c.args.policy c.args.pass.now c.open.new.pass c.in-Ok.sweep c.in-Ok.roots c.in-Ok.view c.mark.new.marks c.requires.none c.in-Ok.ensures.kept c.in-Ok.ensures.opened c.in-Ok.ensures.known.0 c.in-Ok.ensures.legal
    (subst (λ (l : List Hash). AddsAll l c.mark.new.marks.set (live_of c.in-Ok.view.commits c.in-Ok.roots)) c.empty-marks.ensures.none c.in-Ok-mark.ensures.adds) c.in-Ok-mark.ensures.walked

pub returns-in-Err-mark-clause-refused : goal.returns-in-Err-mark-clause-refused
returns-in-Err-mark-clause-refused g c =
    opened_spent g.row.K.Denot c.args.desk.now c.args.policy c.args.pass.now c.open.new.pass c.give_up.new.pass c.in-Ok.sweep c.in-Ok.roots c.in-Ok.view c.out_of_memory.result c.requires.none c.in-Ok.ensures.kept c.in-Ok.ensures.opened c.in-Ok.ensures.known.0 c.in-Ok.ensures.legal
    c.give_up.ensures.legal c.give_up.ensures.dropped c.out_of_memory.ensures

pub mark-requires-clause-walked : goal.mark-requires-clause-walked
mark-requires-clause-walked g c κs within = c.empty-marks.ensures.walked _
