use Rattle.cat_ordered.proofs.Changes.{puts_none, puts_one}
use Rattle.cat_ordered.proofs.block.put.Goals as goal

pub returns-in-None : goal.returns-in-None
returns-in-None g c = puts_none c.args.out.now.items c.args.change.now c.in_ok-pair.field-0 c.in_ok-pair.ensures c.in-None.is

pub returns-in_ok-push-in-Some : goal.returns-in_ok-push-in-Some
returns-in_ok-push-in-Some g c = puts_one c.args.out.now.items c.push.new.self.items c.args.change.now c.in_ok-pair.field-0 c.in-Some.pair c.in_ok-pair.ensures c.in-Some.is c.in_ok-push-in-Some.ensures.items
