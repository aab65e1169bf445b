use Rattle.std.proofs.Common.{inl, ◌≡◌, ℕ, ◌+◌, ◌∷◌, [], ◌++◌, Bool, Some, None, IsTrue, true, false, rules, arith, refl, sym, ap, ◌∙◌, subst}
use Rattle.cat_io.specs.declared.fault.Failed.{Failed}
use Rattle.cat_io.specs.Causes.{Rose}
use Rattle.cat_serve.specs.Workers.{ends_of}
use Rattle.cat_serve.proofs.Standing.{keeps_on, keeps_self}
use Rattle.cat_serve.proofs.Workers.{counted_none, counted_some, given_none, given_some, own_more, own_none, own_same}
use Rattle.cat_serve.proofs.worker.serve.Goals as goal

pub connections-init : goal.connections-init
connections-init g c = record {
  ready = c.requires.ready;
  kept = keeps_self c.args.desk.now c.args.pass.now c.requires.ready.free;
  tells = refl;
  listens = refl;
  faults = refl;
  out = λ t. refl;
  rejoined = refl;
  twins = refl;
  dealt = refl;
  served = own_none (ends_of g.L.In.Source.left g.L.In.Source.faults g.L.Out.Sink.held g.L.Out.Sink.faults) c.args.desk.now c.args.settings.attempts _ _ _ _ _;
}

pub connections-preserved : goal.connections-preserved
connections-preserved g c =
    let i = c.connections.invariant in
    let here : IsTrue (g.L.Listener.tells c.args.listener.now) → IsTrue (g.L.Listener.tells c.connections.listener) = λ t. subst (λ (b : Bool). IsTrue b) (sym i.tells) t in
    let there : IsTrue (g.L.Listener.tells c.args.listener.now) → IsTrue (g.L.Listener.tells c.accept.new.self) = λ t. subst (λ (b : Bool). IsTrue b) (sym c.accept.ensures.stands.tells) (here t) in
    let is : c.in-Ok-Some.field-0 ≡ Some (c.in-Ok-Some.input, c.in-Ok-Some.output) = search rules in
    let more : IsTrue (g.L.Listener.tells c.args.listener.now) → g.L.Listener.out c.accept.new.self ≡ g.L.Listener.out c.connections.listener + 1 =
    λ t. counted_some Failed _ _ c.in-Ok-Some.field-0 _ (c.in-Ok-Some.ensures.out (here t)) is in
    let s = c.serve_connection.ensures in
    record {
      ready = s.ready;
      kept = keeps_on c.args.desk.now c.args.pass.now _ _ i.kept s.kept;
      tells = c.back.ensures.stands.tells ∙ c.accept.ensures.stands.tells ∙ i.tells;
      listens = c.back.ensures.stands.listens ∙ c.accept.ensures.stands.listens ∙ i.listens;
      faults = c.back.ensures.faults ∙ c.in-Ok-Some.ensures.cause.stays ∙ i.faults;
      out = λ t. let a = more t in let b = c.back.ensures.out (there t) in let d = i.out t in omega arith;
      rejoined = c.back.ensures.others.rejoined ∙ c.accept.ensures.others.rejoined ∙ i.rejoined;
      twins = c.back.ensures.others.twins ∙ c.accept.ensures.others.twins ∙ i.twins;
      dealt = c.back.ensures.others.dealt ∙ c.accept.ensures.others.dealt ∙ i.dealt;
      served = own_more (ends_of g.L.In.Source.left g.L.In.Source.faults g.L.Out.Sink.held g.L.Out.Sink.faults) c.args.desk.now c.args.settings.attempts _ _ _ _ _
          (g.L.Listener.waiting c.connections.listener) _ (g.L.Listener.returned c.connections.listener) _
          (c.in-Ok-Some.input, c.in-Ok-Some.output) (c.serve_connection.new.source, c.serve_connection.new.sink) c.connections.pass (g.C.Clock.ahead c.connections.clock) _ _ i.served
          (λ t. given_some Failed _ _ c.in-Ok-Some.field-0 _ (c.in-Ok-Some.ensures.gives (here t)) is ∙ ap (λ l. (c.in-Ok-Some.input, c.in-Ok-Some.output) ∷ l) (sym c.back.ensures.waiting))
          (λ t. c.back.ensures.returned (there t) (let a = more t in omega arith) ∙ ap (λ l. l ++ (c.serve_connection.new.source, c.serve_connection.new.sink) ∷ []) c.accept.ensures.returned)
          (record { end = c.serve_connection.result; serves = s.serves; read = s.read; write = s.write; source_stays = s.source_stays; sink_stays = s.sink_stays });
    }

pub returns-in-Ok-None : goal.returns-in-Ok-None
returns-in-Ok-None g c =
    let i = c.connections.invariant in
    let here : IsTrue (g.L.Listener.tells c.args.listener.now) → IsTrue (g.L.Listener.tells c.connections.listener) = λ t. subst (λ (b : Bool). IsTrue b) (sym i.tells) t in
    let is : c.in-Ok-None.field-0 ≡ None = search rules in
    let none : IsTrue (g.L.Listener.tells c.args.listener.now) → (g.L.Listener.waiting c.connections.listener ≡ []) × (g.L.Listener.waiting c.accept.new.self ≡ []) =
    λ t. given_none Failed _ _ c.in-Ok-None.field-0 (c.in-Ok-None.ensures.gives (here t)) is in
    record {
      serves = own_same (ends_of g.L.In.Source.left g.L.In.Source.faults g.L.Out.Sink.held g.L.Out.Sink.faults) c.args.desk.now c.args.settings.attempts _ _ _ _ _
          (g.L.Listener.waiting c.connections.listener) _ (g.L.Listener.returned c.connections.listener) _ _ _ i.served (λ t. (none t).0 ∙ sym (none t).1) c.accept.ensures.returned;
      end = λ e t. (none t).1;
      ready = i.ready;
      kept = i.kept;
      counts = inl (c.in-Ok-None.ensures.cause.stays ∙ i.faults);
      stands = record { tells = c.accept.ensures.stands.tells ∙ i.tells; listens = c.accept.ensures.stands.listens ∙ i.listens };
      out = λ t. counted_none Failed _ _ c.in-Ok-None.field-0 (c.in-Ok-None.ensures.out (here t)) is ∙ i.out t;
      others = record { rejoined = c.accept.ensures.others.rejoined ∙ i.rejoined; twins = c.accept.ensures.others.twins ∙ i.twins; dealt = c.accept.ensures.others.dealt ∙ i.dealt };
    }

pub returns-in-Err : goal.returns-in-Err
returns-in-Err g c =
    let i = c.connections.invariant in
    let here : IsTrue (g.L.Listener.tells c.args.listener.now) → IsTrue (g.L.Listener.tells c.connections.listener) = λ t. subst (λ (b : Bool). IsTrue b) (sym i.tells) t in
    record {
      serves = own_same (ends_of g.L.In.Source.left g.L.In.Source.faults g.L.Out.Sink.held g.L.Out.Sink.faults) c.args.desk.now c.args.settings.attempts _ _ _ _ _
          (g.L.Listener.waiting c.connections.listener) _ (g.L.Listener.returned c.connections.listener) _ _ _ i.served (λ t. sym (c.in-Err.ensures.gives (here t))) c.accept.ensures.returned;
      end = λ e t. absurd (not_failed e);
      ready = i.ready;
      kept = i.kept;
      counts = subst (λ (n : ℕ). Rose n (g.L.Listener.faults c.accept.new.self)) i.faults c.in-Err.ensures.cause.failed;
      stands = record { tells = c.accept.ensures.stands.tells ∙ i.tells; listens = c.accept.ensures.stands.listens ∙ i.listens };
      out = λ t. let a = c.in-Err.ensures.out (here t) in let d = i.out t in omega arith;
      others = record { rejoined = c.accept.ensures.others.rejoined ∙ i.rejoined; twins = c.accept.ensures.others.twins ∙ i.twins; dealt = c.accept.ensures.others.dealt ∙ i.dealt };
    }
  where
    not_failed : true ≡ false → ⊥
    not_failed e = cc
