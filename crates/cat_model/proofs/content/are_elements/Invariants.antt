use Rattle.std.proofs.Common.{◌≡◌, length, bytes_eq}
use Rattle.std.specs.Cmp.Lexicographic.{pointwise}
use Rattle.cat_model.proofs.content.are_elements.Given as goal

abbrev pub invariant-loop-texts : goal.invariant-loop-texts
invariant-loop-texts l = pointwise bytes_eq l.texts l.elements ≡ pointwise bytes_eq l.fn.texts l.fn.elements

abbrev pub decreases-loop-texts : goal.decreases-loop-texts
decreases-loop-texts l = length l.texts
