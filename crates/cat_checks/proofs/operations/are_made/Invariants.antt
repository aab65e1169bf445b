use Rattle.std.proofs.Common.{◌≡◌, drop}
use Rattle.std.specs.List.{list_all}
use Rattle.sha2.specs.Sha256.{sha256}
use Rattle.cat_model.specs.Commits.{with_their_contents}
use Rattle.cat_model.specs.WellMade.{is_made}
use Rattle.cat_checks.proofs.operations.are_made.Given as goal

abbrev pub invariant-loop-op : goal.invariant-loop-op
invariant-loop-op l = list_all (is_made sha256) (with_their_contents (drop l.op-index l.ops) l.left) ≡ list_all (is_made sha256) (with_their_contents l.ops l.contents)
