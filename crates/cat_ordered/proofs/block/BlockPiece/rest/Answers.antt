use Rattle.std.proofs.Common.{ap, drop, ◌∙◌}
use Rattle.cat_ordered.proofs.Steps.{last_part}
use Rattle.cat_ordered.proofs.block.BlockPiece.rest.Goals as goal

pub returns : goal.returns
returns g c =
    let part = last_part c.args.self.now.pairs.items c.rest_of.result.now c.args.at c.requires (c.rest_of.ensures ∙ ap (drop c.args.at) c.as_slice.ensures.value) in
    record { some = part.0; front = part.1 }
