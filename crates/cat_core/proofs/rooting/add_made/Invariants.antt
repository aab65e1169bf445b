use Rattle.std.proofs.Common.{◌≡◌, ◌++◌, drop}
use Rattle.std.specs.List.{flat_map}
use Rattle.cat_core.specs.Sweeps.{head_made, if_head}
use Rattle.cat_core.proofs.rooting.add_made.Given as goal

abbrev pub invariant-loop-entry : goal.invariant-loop-entry
invariant-loop-entry l = l.heads.items ++ flat_map (λ e. if_head (head_made l.policy e)) (drop l.entry-index l.entries) ≡ l.fn.heads.items ++ flat_map (λ e. if_head (head_made l.policy e)) l.entries
