use Rattle.cat_decisions.specs.BuildLaws.{transplanted_upon}
use Rattle.cat_decisions.proofs.deciding.decide_transplant.Goals as goal

pub settle_transplant-requires-clause-drafted : goal.settle_transplant-requires-clause-drafted
settle_transplant-requires-clause-drafted c = transplanted_upon c.args.catalogue.now c.args.transplant.now c.requires.planned.0 c.args.draft _ c.in-Ok.ensures.opened c.requires.planned.1
