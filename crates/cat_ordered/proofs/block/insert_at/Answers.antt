use Rattle.std.proofs.Common.{drop, take}
use Rattle.cat_ordered.proofs.Lists.{take_drop}
use Rattle.cat_ordered.proofs.InPlace.{leaves_none, leaves_one}
use Rattle.cat_ordered.proofs.block.insert_at.Goals as goal

pub returns-in-None : goal.returns-in-None
returns-in-None g c =
    leaves_none (take c.args.at c.args.pairs.now.items) (drop c.args.at c.args.pairs.now.items) c.args.pairs.now.items c.args.change.now c.in_ok-pair.field-0 c.in_ok-pair.ensures c.in-None.is (take_drop c.args.at c.args.pairs.now.items)

pub returns-in_ok-insert-in-Some : goal.returns-in_ok-insert-in-Some
returns-in_ok-insert-in-Some g c =
    leaves_one (take c.args.at c.args.pairs.now.items) (drop c.args.at c.args.pairs.now.items) c.insert.new.self.items c.args.change.now c.in_ok-pair.field-0 c.in-Some.pair c.in_ok-pair.ensures c.in-Some.is c.in_ok-insert-in-Some.ensures.items
