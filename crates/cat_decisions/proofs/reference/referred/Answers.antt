use Rattle.cat_decisions.proofs.Referred.{referred_is}
use Rattle.cat_decisions.proofs.reference.referred.Goals as goal

pub returns : goal.returns
returns c draft call logged left = referred_is draft c.args.catalogue.now call c.args.command c.no_additions.result c.args.change c.args.head c.args.reply c.requires.place c.requires.may c.requires.within c.no_additions.ensures.none c.no_additions.ensures.new logged left
