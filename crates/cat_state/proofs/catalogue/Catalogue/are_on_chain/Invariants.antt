use Rattle.std.proofs.Common.{◌≡◌, drop}
use Rattle.std.specs.List.{list_all}
use Rattle.cat_model.specs.Chain.{on_chain}
use Rattle.cat_state.proofs.catalogue.Catalogue.are_on_chain.Given as goal

abbrev pub invariant-loop-hash : goal.invariant-loop-hash
invariant-loop-hash l = list_all (on_chain l.self.commits l.head) (drop l.hash-index l.hashes) ≡ list_all (on_chain l.self.commits l.head) l.hashes
