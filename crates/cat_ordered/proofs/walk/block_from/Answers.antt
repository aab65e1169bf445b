use Rattle.std.proofs.Common.{arith}
use Rattle.cat_ordered.proofs.Steps.{whole_from, fits_from, walk_from}
use Rattle.cat_ordered.proofs.walk.block_from.Goals as goal

pub overflow_add-next : goal.overflow_add-next
overflow_add-next g c = omega (arith, fits_from c.args.map.now c.args.at c.block_at-block.result.now c.requires c.block_at-block.ensures.front, c.len-len.ensures)

pub returns : goal.returns
returns g c = record {
  whole = whole_from c.args.map.now c.args.at c.block_at-block.result.now c.block_at-block.ensures.front;
  walk = walk_from c.args.map.now c.args.at c.block_at-block.result.now c.requires c.block_at-block.ensures.some c.block_at-block.ensures.front;
}
