use Rattle.std.proofs.Common.{◌≡◌, take}
use Rattle.cat_keymap.specs.Ordered.{values}
use Rattle.cat_keymap.proofs.order.references.Given as goal

abbrev pub invariant-loop-op : goal.invariant-loop-op
invariant-loop-op l = values l.out.items ≡ take l.op-index l.ops
