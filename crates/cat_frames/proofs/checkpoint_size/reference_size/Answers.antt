use Rattle.std.proofs.Common.{arith, ap, length}
use Rattle.cat_frames.proofs.Sizes.{named_size}
use Rattle.cat_frames.proofs.checkpoint_size.reference_size.Goals as goal

pub returns : goal.returns
returns c = let size = named_size c.args.reference.now in omega (arith, size, c.sum.ensures, c.sum-2.ensures, ap length c.as_str.ensures, ap length c.as_slice.ensures)
