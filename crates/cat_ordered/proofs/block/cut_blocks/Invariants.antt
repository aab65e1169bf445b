use Rattle.std.proofs.Common.{length}
use Rattle.std.specs.Vec.Iter.{into_iter_items}
use Rattle.cat_ordered.specs.Shared.{values}
use Rattle.cat_ordered.proofs.Cutting.{Cut}
use Rattle.cat_ordered.proofs.block.cut_blocks.Given as goal

abbrev pub invariant-loop-alloc : goal.invariant-loop-alloc
invariant-loop-alloc g l = Cut (λ b. b.pairs.items) (λ b. length b.pairs.items) 16 l.fn.pairs.items (length l.fn.pairs.items) (values l.out.items) (into_iter_items l.rest) (length (into_iter_items l.rest))

abbrev pub decreases-loop-alloc : goal.decreases-loop-alloc
decreases-loop-alloc g l = length (into_iter_items l.rest)
