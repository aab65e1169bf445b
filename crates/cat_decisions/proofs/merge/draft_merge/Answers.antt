use Rattle.std.proofs.Common.{refl}
use Rattle.cat_decisions.proofs.Drafted.{merge_drafted}
use Rattle.cat_decisions.proofs.merge.draft_merge.Goals as goal

pub returns : goal.returns
returns c =
    merge_drafted c.args.catalogue.now c.args.merge.now c.args.branch.now c.args.source.now _ c.in_ok-plan.plan c.args.merge.now.meta _ c.requires.known
    c.in_ok-ancestor.ensures.value c.in_ok-plan.ensures.exact c.in_ok-plan.ensures.plans refl refl c.in_ok-planned.ensures refl c.in_ok-logged_merge.ensures
