use Rattle.std.proofs.Common.{◌≡◌, ◌+◌, drop, length}
use Rattle.cat_graph.specs.Linked.{values}
use Rattle.cat_model.specs.Pages.{up_to}
use Rattle.cat_pages.proofs.history.len_up_to.Given as goal

abbrev pub invariant-loop-hash : goal.invariant-loop-hash
invariant-loop-hash l = record {
  so_far : l.len ≡ l.hash-index;
  whole : l.len + length (up_to (values (drop l.hash-index l.commits)) l.last) ≡ length (up_to (values l.commits) l.last);
}
