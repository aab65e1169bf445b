use Rattle.std.proofs.Common.{◌≡◌, take, map}
use Rattle.cat_graph.specs.Linked.{values}
use Rattle.cat_model.specs.Answer.{history_item}
use Rattle.cat_answers.proofs.histories.history_items.Given as goal

abbrev pub invariant-loop-hash : goal.invariant-loop-hash
invariant-loop-hash l = l.items ≡ map (history_item l.contents l.with_operations) (values (take l.hash-index l.commits))
