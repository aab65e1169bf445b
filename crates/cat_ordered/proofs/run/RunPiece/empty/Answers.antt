use Rattle.std.proofs.Common.{refl, arith}
use Rattle.cat_ordered.proofs.run.RunPiece.empty.Goals as goal

pub invariant_of-result : goal.invariant_of-result
invariant_of-result g c = rw c.new.ensures.items (record { fine = record { pieces = tt; large = λ two. absurd (omega arith) }; count = refl })
