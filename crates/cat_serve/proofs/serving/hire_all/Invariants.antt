use Rattle.std.proofs.Common.{◌≡◌, ◌+◌, ◌-◌, ◌<◌, ◌≤◌, IsTrue, drop, vec_capacity, vec_len}
use Rattle.std.specs.List.{All}
use Rattle.cat_desk.specs.Pass.{Remembers, number_of, spare_of, stands_for}
use Rattle.cat_work.specs.Passes.{IsReady}
use Rattle.cat_serve.specs.Hiring.{AreDealt, AreNumbered, IsHired}
use Rattle.cat_serve.specs.Workers.{first_split}
use Rattle.cat_serve.proofs.serving.hire_all.Given as goal

abbrev pub invariant-hiring : goal.invariant-hiring
invariant-hiring g l = record {
  ready : IsReady l.fn.desk l.pass;
  remembers : Remembers l.fn.pass l.pass;
  hired : All (IsHired g.L.Listener.tells g.L.Listener.returned g.L.Listener.faults g.C.Clock.ahead (g.L.Listener.tells l.fn.listener) (g.C.Clock.ahead l.fn.clock) l.fn.desk l.fn.pass) l.others.items;
  numbered : AreNumbered (first_split l.fn.pass) l.others.items;
  number : number_of l.pass ≡ number_of l.fn.pass;
  stand : stands_for l.pass ≡ stands_for l.fn.pass;
  spare : spare_of l.pass + vec_len l.others ≡ spare_of l.fn.pass;
  bound : 0 < vec_len l.others → spare_of l.fn.pass ≤ 4294967296;
  within : vec_len l.others ≤ l.count;
  room : l.count ≤ vec_capacity l.others;
  faults : g.L.Listener.faults l.listener ≡ g.L.Listener.faults l.fn.listener;
  tells : g.L.Listener.tells l.listener ≡ g.L.Listener.tells l.fn.listener;
  listens : g.L.Listener.listens l.listener ≡ g.L.Listener.listens l.fn.listener;
  waiting : g.L.Listener.waiting l.listener ≡ g.L.Listener.waiting l.fn.listener;
  returned : g.L.Listener.returned l.listener ≡ g.L.Listener.returned l.fn.listener;
  out : g.L.Listener.out l.listener ≡ g.L.Listener.out l.fn.listener;
  rejoined : g.L.Listener.rejoined l.listener ≡ g.L.Listener.rejoined l.fn.listener;
  twins : IsTrue (g.L.Listener.tells l.fn.listener) → g.L.Listener.twins l.listener ≡ g.L.Listener.twins l.fn.listener + vec_len l.others;
  dealt : AreDealt g.L.Listener.waiting (g.L.Listener.tells l.fn.listener) (g.L.Listener.dealt l.fn.listener) l.others.items;
  rest : IsTrue (g.L.Listener.tells l.fn.listener) → g.L.Listener.dealt l.listener ≡ drop (vec_len l.others) (g.L.Listener.dealt l.fn.listener);
}

abbrev pub decreases-hiring : goal.decreases-hiring
decreases-hiring g l = l.count - vec_len l.others
