use Rattle.std.proofs.Common.{arith}
use Rattle.cat_model.specs.Answer.{keyed_content}
use Rattle.cat_answers.proofs.Walks.{filter_map_more}
use Rattle.cat_answers.proofs.keyed.keyed_contents.Goals as goal

pub loop-key-preserved : goal.loop-key-preserved
loop-key-preserved c =
    filter_map_more (keyed_content c.args.contents.now c.args.map.now) c.args.keys.now c.key-item.result c.loop-key.key-index c.loop-key.found _ c.loop-key.invariant c.in_ok-add_keyed.ensures (omega arith) c.key-item.is
