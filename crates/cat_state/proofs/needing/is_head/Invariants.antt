use Rattle.std.proofs.Common.{◌≡◌, length}
use Rattle.std.specs.List.{list_any}
use Rattle.cat_model.specs.Same.{same_hash}
use Rattle.cat_state.proofs.needing.is_head.Given as goal

abbrev pub invariant-loop-reference : goal.invariant-loop-reference
invariant-loop-reference l = list_any (λ r. same_hash r.head l.hash) l.rest ≡ list_any (λ r. same_hash r.head l.hash) l.references

abbrev pub decreases-loop-reference : goal.decreases-loop-reference
decreases-loop-reference l = length l.rest
