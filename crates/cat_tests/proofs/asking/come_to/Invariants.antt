use Rattle.cat_work.specs.Passes.{IsReady}
use Rattle.cat_tests.proofs.asking.come_to.Given as goal

abbrev pub invariant-loop-text : goal.invariant-loop-text
invariant-loop-text g l = IsReady l.desk l.pass
