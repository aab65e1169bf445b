use Rattle.cat_cli.proofs.program.drilled.Goals as goal

pub returns-clause-drilled : goal.returns-clause-drilled
returns-clause-drilled g c w held = rw c.tell_no_memory.ensures.status (c.tell_no_memory.ensures.told w held)
