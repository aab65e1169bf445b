use Rattle.std.proofs.Common.{◌≡◌, ◌++◌, drop}
use Rattle.std.specs.List.{flat_map}
use Rattle.cat_core.specs.Sweeps.{head_taken, if_head}
use Rattle.cat_core.proofs.rooting.add_taken.Given as goal

abbrev pub invariant-loop-reference : goal.invariant-loop-reference
invariant-loop-reference l = l.heads.items ++ flat_map (λ t. if_head (head_taken l.policy t)) (drop l.reference-index l.taken) ≡ l.fn.heads.items ++ flat_map (λ t. if_head (head_taken l.policy t)) l.taken
