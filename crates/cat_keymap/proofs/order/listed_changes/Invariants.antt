use Rattle.std.proofs.Common.{◌≡◌, take, flat_map}
use Rattle.cat_model.specs.Judge.{op_changes}
use Rattle.cat_keymap.specs.Ordered.{values}
use Rattle.cat_keymap.proofs.order.listed_changes.Given as goal

abbrev pub invariant-loop-op : goal.invariant-loop-op
invariant-loop-op l = l.out ≡ flat_map op_changes (values (take l.op-index l.sorted))
