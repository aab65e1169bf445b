use Rattle.std.proofs.Common.{◌≡◌, take, map}
use Rattle.cat_model.specs.Judge.{op_key}
use Rattle.cat_keymap.proofs.distinct.keys.Given as goal

abbrev pub invariant-loop-op : goal.invariant-loop-op
invariant-loop-op l = map (λ k. k.now) l.out.items ≡ map op_key (take l.op-index l.ops)
