use Rattle.cat_tests.proofs.marks.marked.Goals as goal

pub mark_root-requires-clause-walked : goal.mark_root-requires-clause-walked
mark_root-requires-clause-walked g c = c.in_ok-add.ensures.walked _ (c.empty-marks.ensures.walked _)
