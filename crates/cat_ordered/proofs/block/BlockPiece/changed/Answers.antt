use Rattle.std.proofs.Common.{ap, ◌∙◌}
use Rattle.cat_ordered.specs.Maps.{after_changes}
use Rattle.cat_ordered.proofs.Changes.{block_rate}
use Rattle.cat_ordered.proofs.Cutting.{cuts_make}
use Rattle.cat_ordered.proofs.block.BlockPiece.changed.Goals as goal

pub returns : goal.returns
returns g c =
    let pairs = c.in_ok-pairs.ensures ∙ ap (after_changes g.K.Ord.cmp c.args.changes.now) c.as_slice.ensures.value in
    record {
      made = cuts_make _ _ _ _ _ _ _ c.in_ok-made.ensures.cut pairs;
      few = block_rate g.K.Ord.cmp g.met.K.Ord.total c.args.changes.now c.args.self.now.pairs.items c.in_ok-pairs.pairs.items c.in_ok-made.made.copied c.in_ok-made.ensures.copied pairs c.requires.fits c.requires.some;
    }
