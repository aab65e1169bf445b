use Rattle.cat_ordered.proofs.run.run_of.Goals as goal

pub invariant_of-result : goal.invariant_of-result
invariant_of-result g c = record { fine = c.requires; count = rw c.as_slice.ensures.value at c.in-Some.ensures }
