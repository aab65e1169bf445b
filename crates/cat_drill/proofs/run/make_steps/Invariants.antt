use Rattle.std.proofs.Common.{◌≡◌, Some}
use Rattle.cat_desk.specs.Pass.{Keeps}
use Rattle.cat_io.specs.Clocks.{from}
use Rattle.cat_io.specs.Memory.{clock_readings}
use Rattle.cat_work.specs.Passes.{IsReady, book_of}
use Rattle.cat_drill.specs.Drill.{book_at, moments, number_at}
use Rattle.cat_drill.proofs.run.make_steps.Given as goal

abbrev pub invariant-steps : goal.invariant-steps
invariant-steps g l = record {
  number : l.number ≡ number_at l.fn.seed l.made;
  book : book_of l.fn.desk l.pass ≡ book_at l.fn.seed l.made;
  clock : clock_readings l.clock ≡ Some (from l.made moments);
  ready : IsReady l.fn.desk l.pass;
  kept : Keeps l.fn.desk l.fn.pass l.pass;
}
