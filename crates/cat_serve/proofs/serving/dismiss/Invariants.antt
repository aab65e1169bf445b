use Rattle.std.proofs.Common.{◌≡◌, ℕ, ◌+◌, drop, false, IsTrue, List, Option, vec_len}
use Rattle.std.specs.List.{All}
use Rattle.cat_desk.specs.Pass.{HasNumber, Remembers, number_of, spare_of, stands_for}
use Rattle.cat_desk.specs.declared.pass.Pass.{Pass}
use Rattle.cat_work.specs.Passes.{IsReady}
use Rattle.cat_serve.specs.Hiring.{AreBack, AreDealt, AreDone, AreNumbered, Counts, HasNone, IsBack, IsIdle}
use Rattle.cat_serve.specs.Serving.{GrowsTo, TakenIn}
use Rattle.cat_serve.specs.Sessions.{Readings}
use Rattle.cat_serve.specs.Workers.{ComesBack, ends_of}
use Rattle.cat_serve.proofs.serving.dismiss.Given as goal

abbrev pub invariant-loop-worker : goal.invariant-loop-worker
invariant-loop-worker g l = record {
  ready : IsReady l.fn.desk l.pass;
  others : All (IsBack g.L.Listener.faults l.fn.desk) l.others.items;
  number : number_of l.pass ≡ number_of l.fn.pass;
  stand : stands_for l.pass + vec_len l.others ≡ stands_for l.fn.pass + vec_len l.fn.others;
  spare : spare_of l.pass ≡ spare_of l.fn.pass;
  grows : GrowsTo l.fn.pass l.pass;
  taken : (number : ℕ) → HasNumber number l.fn.pass → TakenIn number l.fn.pass l.pass;
  idle : (p : Pass) → Remembers p l.fn.pass → All (IsIdle {L = g.row.L.Denot} {C = g.row.C.Denot} p) l.fn.others.items → Remembers p l.pass × (l.failed ≡ false) × All (IsIdle {L = g.row.L.Denot} {C = g.row.C.Denot} p) l.others.items;
  unserved : (dealt : List (List _)) → All (HasNone g.L.Listener.returned) l.fn.others.items → AreDealt g.L.Listener.waiting (g.L.Listener.tells l.fn.listener) dealt l.fn.others.items
      → (IsTrue (g.L.Listener.tells l.fn.listener) → ComesBack (drop (vec_len l.others) dealt) (drop (vec_len l.fn.others) dealt) (g.L.Listener.rejoined l.fn.listener) (g.L.Listener.rejoined l.listener))
      × All (HasNone g.L.Listener.returned) l.others.items × AreDealt g.L.Listener.waiting (g.L.Listener.tells l.fn.listener) dealt l.others.items;
  back : (attempts number : ℕ) (ahead : Option Readings) (p : Pass) (dealt : List (List _))
      → AreDone (ends_of g.L.In.Source.left g.L.In.Source.faults g.L.Out.Sink.held g.L.Out.Sink.faults) l.fn.desk attempts g.L.Listener.waiting g.L.Listener.returned g.L.Listener.faults (g.L.Listener.tells l.fn.listener) ahead p dealt
      l.fn.others.items
      → AreNumbered number l.fn.others.items
      → AreBack (ends_of g.L.In.Source.left g.L.In.Source.faults g.L.Out.Sink.held g.L.Out.Sink.faults) l.fn.desk attempts (g.L.Listener.tells l.fn.listener) l.failed
      (g.L.Listener.rejoined l.fn.listener) (g.L.Listener.rejoined l.listener) dealt (vec_len l.others) (vec_len l.fn.others) number p ahead l.pass
      × AreDone (ends_of g.L.In.Source.left g.L.In.Source.faults g.L.Out.Sink.held g.L.Out.Sink.faults) l.fn.desk attempts g.L.Listener.waiting g.L.Listener.returned g.L.Listener.faults (g.L.Listener.tells l.fn.listener) ahead p dealt
      l.others.items
      × AreNumbered number l.others.items;
  counts : Counts l.failed (g.L.Listener.faults l.fn.listener) (g.L.Listener.faults l.listener);
  tells : g.L.Listener.tells l.listener ≡ g.L.Listener.tells l.fn.listener;
  listens : g.L.Listener.listens l.listener ≡ g.L.Listener.listens l.fn.listener;
  waiting : g.L.Listener.waiting l.listener ≡ g.L.Listener.waiting l.fn.listener;
  returned : g.L.Listener.returned l.listener ≡ g.L.Listener.returned l.fn.listener;
  out : g.L.Listener.out l.listener ≡ g.L.Listener.out l.fn.listener;
  twins : IsTrue (g.L.Listener.tells l.fn.listener) → g.L.Listener.twins l.listener + vec_len l.fn.others ≡ g.L.Listener.twins l.fn.listener + vec_len l.others;
  dealt : g.L.Listener.dealt l.listener ≡ g.L.Listener.dealt l.fn.listener;
}

abbrev pub decreases-loop-worker : goal.decreases-loop-worker
decreases-loop-worker g l = vec_len l.others
