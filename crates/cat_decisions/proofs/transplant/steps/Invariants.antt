use Rattle.std.proofs.Common.{◌≡◌, map, take}
use Rattle.cat_model.specs.Transplants.{change_made, commits_at}
use Rattle.cat_merge.specs.Planned.{AreTouched, step_of}
use Rattle.cat_decisions.proofs.transplant.steps.Given as goal

abbrev pub invariant-loop-hash : goal.invariant-loop-hash
invariant-loop-hash l = record {
  exact : map step_of l.out.items ≡ map (change_made l.catalogue.commits) (commits_at l.catalogue.commits (take l.hash-index l.hashes));
  touched : AreTouched l.out.items;
}
