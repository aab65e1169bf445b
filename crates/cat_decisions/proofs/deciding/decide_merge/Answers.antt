use Rattle.cat_decisions.specs.BuildLaws.{merged_upon}
use Rattle.cat_decisions.proofs.deciding.decide_merge.Goals as goal

pub settle_merge-requires-clause-drafted : goal.settle_merge-requires-clause-drafted
settle_merge-requires-clause-drafted c = merged_upon c.args.catalogue.now c.args.merge.now c.requires.planned.0 c.args.draft _ _ c.in-Ok.ensures.opened c.requires.planned.1
