use Rattle.std.specs.Prelude.{◌≡◌, drop}
use Rattle.std.specs.List.{list_all}
use Rattle.cat_graph.specs.Linked.{is_known}
use Rattle.cat_core.proofs.judging.are_known.Given as goal

abbrev pub invariant-loop-hash : goal.invariant-loop-hash
invariant-loop-hash l = list_all (is_known l.catalogue.commits) (drop l.hash-index l.hashes) ≡ list_all (is_known l.catalogue.commits) l.hashes
