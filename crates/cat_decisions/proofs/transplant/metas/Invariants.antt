use Rattle.std.proofs.Common.{◌≡◌, map, take}
use Rattle.cat_model.specs.Transplants.{commits_at}
use Rattle.cat_decisions.specs.Drafts.{meta_of}
use Rattle.cat_decisions.proofs.transplant.metas.Given as goal

abbrev pub invariant-loop-hash : goal.invariant-loop-hash
invariant-loop-hash l = l.out.items ≡ map meta_of (commits_at l.catalogue.commits (take l.hash-index l.hashes))
