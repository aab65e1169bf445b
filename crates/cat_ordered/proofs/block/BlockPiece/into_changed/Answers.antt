use Rattle.std.proofs.Common.{◌≡◌, length, ◌∙◌, arith}
use Rattle.cat_ordered.proofs.Cutting.{cuts_make}
use Rattle.cat_ordered.proofs.InPlace.{one_change}
use Rattle.cat_ordered.proofs.block.BlockPiece.into_changed.Goals as goal

pub returns : goal.returns
returns g c =
    let one : length c.args.changes.now ≡ 1 = omega (arith, c.requires.some) in
    let pairs = c.in_ok-change_pairs.ensures ∙ one_change g.K.Ord.cmp g.met.K.Ord.total c.args.changes.now c.index-changes-0.result c.args.self.pairs.items one c.index-changes-0.is in
    record {
      made = cuts_make _ _ _ _ _ _ _ c.in_ok-blocks.ensures pairs;
      few = omega arith;
    }
