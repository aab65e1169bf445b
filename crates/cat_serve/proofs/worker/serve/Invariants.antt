use Rattle.std.proofs.Common.{◌≡◌, IsTrue}
use Rattle.cat_desk.specs.Pass.{Keeps}
use Rattle.cat_work.specs.Passes.{IsReady}
use Rattle.cat_serve.specs.Hiring.{ServesOwn}
use Rattle.cat_serve.specs.Workers.{ends_of}
use Rattle.cat_serve.proofs.worker.serve.Given as goal

abbrev pub invariant-connections : goal.invariant-connections
invariant-connections g l = record {
  ready : IsReady l.fn.desk l.pass;
  kept : Keeps l.fn.desk l.fn.pass l.pass;
  tells : g.L.Listener.tells l.listener ≡ g.L.Listener.tells l.fn.listener;
  listens : g.L.Listener.listens l.listener ≡ g.L.Listener.listens l.fn.listener;
  faults : g.L.Listener.faults l.listener ≡ g.L.Listener.faults l.fn.listener;
  out : IsTrue (g.L.Listener.tells l.fn.listener) → g.L.Listener.out l.listener ≡ g.L.Listener.out l.fn.listener;
  rejoined : g.L.Listener.rejoined l.listener ≡ g.L.Listener.rejoined l.fn.listener;
  twins : g.L.Listener.twins l.listener ≡ g.L.Listener.twins l.fn.listener;
  dealt : g.L.Listener.dealt l.listener ≡ g.L.Listener.dealt l.fn.listener;
  served : ServesOwn (ends_of g.L.In.Source.left g.L.In.Source.faults g.L.Out.Sink.held g.L.Out.Sink.faults) l.fn.desk l.settings.attempts (g.L.Listener.tells l.fn.listener)
      (g.L.Listener.waiting l.fn.listener) (g.L.Listener.waiting l.listener) (g.L.Listener.returned l.fn.listener) (g.L.Listener.returned l.listener)
      l.fn.pass (g.C.Clock.ahead l.fn.clock) l.pass (g.C.Clock.ahead l.clock);
}
