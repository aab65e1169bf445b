use Rattle.std.proofs.Common.{◌+◌, drop, take}
use Rattle.cat_ordered.proofs.InPlace.{leaves_none, leaves_one, set_parts}
use Rattle.cat_ordered.proofs.block.set_at.Goals as goal

pub returns-in-None : goal.returns-in-None
returns-in-None g c =
    leaves_none (take c.args.at c.args.pairs.now.items) (drop (c.args.at + 1) c.args.pairs.now.items) c.remove.new.self.items c.args.change.now c.in_ok-pair.field-0 c.in_ok-pair.ensures c.in-None.is c.remove.ensures.by_index.2

pub returns-in-Some : goal.returns-in-Some
returns-in-Some g c =
    leaves_one (take c.args.at c.args.pairs.now.items) (drop (c.args.at + 1) c.args.pairs.now.items) _ c.args.change.now c.in_ok-pair.field-0 c.in-Some.pair c.in_ok-pair.ensures c.in-Some.is (set_parts c.args.pairs.now.items c.args.at c.in-Some.pair c.requires)
