use Rattle.std.proofs.Common.{◌≡◌, take, map}
use Rattle.cat_model.specs.Answer.{change_of}
use Rattle.cat_answers.proofs.histories.changes_of.Given as goal

abbrev pub invariant-loop-op : goal.invariant-loop-op
invariant-loop-op l = l.changes ≡ map (change_of l.contents) (take l.op-index l.ops)
