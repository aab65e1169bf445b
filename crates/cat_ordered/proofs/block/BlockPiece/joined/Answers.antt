use Rattle.std.proofs.Common.{◌≡◌, ◌++◌, length, ap, ◌∙◌, arith, length-append}
use Rattle.cat_ordered.proofs.Cutting.{cuts_join}
use Rattle.cat_ordered.proofs.block.BlockPiece.joined.Goals as goal

pub returns : goal.returns
returns g c =
    let both : c.in_ok-pairs.pairs.items ≡ c.args.self.now.pairs.items ++ c.args.next.now.pairs.items = rw (c.as_slice.ensures.value, c.as_slice-2.ensures.value) at c.in_ok-pairs.ensures in
    let size = ap length both ∙ length-append c.args.self.now.pairs.items c.args.next.now.pairs.items in
    record {
      made = cuts_join _ _ _ c.args.self.now c.args.next.now _ _ _ c.in_ok-made.ensures.cut both (omega (arith, size)) (omega (arith, size));
      few = omega (arith, size, c.in_ok-made.ensures.copied, c.requires.left, c.requires.right);
    }
