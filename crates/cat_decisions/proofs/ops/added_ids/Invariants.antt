use Rattle.std.proofs.Common.{◌≡◌, take, flat_map}
use Rattle.cat_model.specs.Commits.{added_id}
use Rattle.cat_decisions.proofs.ops.added_ids.Given as goal

abbrev pub invariant-loop-op : goal.invariant-loop-op
invariant-loop-op l = l.out ≡ flat_map added_id (take l.op-index l.ops)
