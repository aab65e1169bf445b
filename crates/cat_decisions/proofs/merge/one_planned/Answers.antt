use Rattle.std.proofs.Common.{List, [], ◌∷◌, ◌++◌, Some, ap, ◌∙◌}
use Rattle.cat_model.specs.declared.commit.Meta.{Meta}
use Rattle.cat_merge.specs.declared.plan.Planned.{Planned}
use Rattle.cat_decisions.proofs.merge.one_planned.Goals as goal

pub returns : goal.returns
returns c =
    let one : Meta → List Planned = λ (m : Meta). record { merge_parent = Some c.args.source.now; meta = m; plan = c.args.plan } ∷ [] in
    c.in_ok-push.ensures.items ∙ ap (λ (l : List Planned). l ++ one c.in_ok-meta.meta) c.new-planned.ensures.items ∙ ap one c.in_ok-meta.ensures
