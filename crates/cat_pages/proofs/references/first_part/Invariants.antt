use Rattle.std.proofs.Common.{◌≡◌, ◌++◌, ◌≤◌, length}
use Rattle.cat_pages.proofs.references.first_part.Given as goal

abbrev pub invariant-loop-reference : goal.invariant-loop-reference
invariant-loop-reference l = record { few : length l.items ≤ l.limit; whole : l.items ++ l.left ≡ l.fn.left }

abbrev pub decreases-loop-reference : goal.decreases-loop-reference
decreases-loop-reference l = length l.left
