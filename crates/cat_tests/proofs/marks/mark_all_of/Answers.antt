use Rattle.cat_tests.proofs.marks.mark_all_of.Goals as goal

pub mark_all-requires-clause-walked : goal.mark_all-requires-clause-walked
mark_all-requires-clause-walked g c κs within = c.empty-marks.ensures.walked _
