use Rattle.std.proofs.Common.{◌≡◌, take, length}
use Rattle.cat_decisions.specs.Drafts.{all_set_in}
use Rattle.cat_decisions.proofs.counting.all_set_count.Given as goal

abbrev pub invariant-loop-one : goal.invariant-loop-one
invariant-loop-one l = l.count ≡ length (all_set_in (take l.one-index l.planned))
