use Rattle.std.proofs.Common.{List, Some, cond, ap, ◌∙◌}
use Rattle.cat_names.specs.declared.hash.Hash.{Hash}
use Rattle.cat_model.specs.Same.{same_hash}
use Rattle.cat_mark.specs.Walked.{Step, step_of}
use Rattle.cat_mark.proofs.walked.Walked.note.Goals as goal

pub returns-clause-ok : goal.returns-clause-ok
returns-clause-ok c other =
    let step : Step = (c.args.cutoff, c.args.index) in
    c.in_ok-insert.ensures.updates.0 other ∙ ap (λ (l : List (Hash × Step)). cond (same_hash c.args.hash other) (Some step) (step_of l other)) c.self.view_is
