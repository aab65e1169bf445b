use Rattle.cat_desk.specs.Pass.{Keeps}
use Rattle.cat_tests.proofs.desk.add_hundred.Given as goal

abbrev pub invariant-loop : goal.invariant-loop
invariant-loop g l = Keeps l.desk l.fn.pass l.pass
