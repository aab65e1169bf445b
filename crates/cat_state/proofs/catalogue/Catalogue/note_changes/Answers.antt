use Rattle.std.proofs.Common.{arith}
use Rattle.cat_state.proofs.Sets.{next_change, none_left}
use Rattle.cat_state.proofs.catalogue.Catalogue.note_changes.Goals as goal

pub loop-key-preserved : goal.loop-key-preserved
loop-key-preserved c = next_change c.args.self.now c.args.ops.now c.loop-key-item.result c.loop-key.key-index (c.loop-key.keys).keys (c.note_expired.new.keys).keys _ (omega arith) c.loop-key-item.is c.in_ok-note_expired.ensures c.loop-key.invariant

pub returns : goal.returns
returns c = none_left c.args.self.now c.args.ops.now c.loop-key.key-index (c.loop-key.keys).keys _ (omega arith) c.loop-key.invariant
