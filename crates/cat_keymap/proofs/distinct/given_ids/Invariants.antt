use Rattle.std.proofs.Common.{◌≡◌, ◌++◌, drop, map}
use Rattle.cat_model.specs.WellMade.{given_ids}
use Rattle.cat_keymap.proofs.distinct.given_ids.Given as goal

abbrev pub invariant-loop-op : goal.invariant-loop-op
invariant-loop-op l = map (λ k. k.now) l.out.items ++ given_ids (drop l.op-index l.ops) ≡ given_ids l.ops
