use Rattle.cat_decisions.proofs.Steps.{next_kept}
use Rattle.cat_decisions.proofs.preparing.kept_commit.Goals as goal

pub returns-clause-next : goal.returns-clause-next
returns-clause-next c =
    next_kept c.args.catalogue.now c.args.request.now c.args.head.now c.args.moment c.args.ops.now c.args.map c.in_ok-commit.commit c.in_ok-kept.kept c.in_ok-commit.ensures c.requires.after c.in_ok-kept.ensures.commit c.in_ok-kept.ensures.map
