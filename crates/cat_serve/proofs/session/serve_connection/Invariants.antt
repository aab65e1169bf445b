use Rattle.std.proofs.Common.{◌≡◌, ◌+◌, ℕ, List}
use Rattle.std.specs.Io.KnownBytes.{prepend_known}
use Rattle.cat_desk.specs.Pass.{Keeps}
use Rattle.cat_work.specs.Passes.{IsReady}
use Rattle.cat_serve.specs.Passes.{GoesBy, Visit, place}
use Rattle.cat_serve.specs.Sessions.{ByReadings, HasTaken, Readings, Point, Reaches, Stands}
use Rattle.cat_serve.proofs.session.serve_connection.Given as goal

abbrev pub invariant-turns : goal.invariant-turns
invariant-turns g l = record {
  reached : ByReadings (g.C.Clock.ahead l.fn.clock) (g.C.Clock.ahead l.clock) (λ (taken : List ℕ) (k : Readings) (a : Point). a.left ≡ 1000
      → Stands l.fn.desk a l.fn.pass (g.S.Source.left l.fn.source) (g.K.Sink.held l.fn.sink)
      → (c : Point) × Reaches k a c × (c.left + l.count ≡ 1000)
      × Stands l.fn.desk c l.pass (prepend_known l.buffer.unread (g.S.Source.left l.source)) (g.K.Sink.held l.sink) × HasTaken taken a.standing c.standing);
  visited : (visits : List Visit) × (left : ℕ) × (left + l.count ≡ 1000)
      × GoesBy l.fn.desk l.settings.attempts visits (place 1000 l.fn.pass (g.C.Clock.ahead l.fn.clock) (g.S.Source.left l.fn.source) (g.K.Sink.held l.fn.sink))
      (place left l.pass (g.C.Clock.ahead l.clock) (prepend_known l.buffer.unread (g.S.Source.left l.source)) (g.K.Sink.held l.sink));
  ready : IsReady l.fn.desk l.pass;
  gate : g.G.Gate.ready l.gate;
  desks : g.G.Gate.desks l.gate ≡ g.G.Gate.desks l.fn.gate;
  kept : Keeps l.fn.desk l.fn.pass l.pass;
  source_faults : g.S.Source.faults l.source ≡ g.S.Source.faults l.fn.source;
  sink_faults : g.K.Sink.faults l.sink ≡ g.K.Sink.faults l.fn.sink;
}
