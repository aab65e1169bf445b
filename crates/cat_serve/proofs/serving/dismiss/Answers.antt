use Rattle.std.proofs.Common.{inl, ◌≡◌, ℕ, ◌+◌, ◌<◌, drop, length, ap, Bool, Some, IsTrue, vec_len, rules, arith, ◌||◌, false, ap₂, refl, sym, ◌∙◌, subst}
use Rattle.cat_io.specs.Listening.{first_of}
use Rattle.cat_serve.specs.Hiring.{HasNone, IsBack, IsDone, IsIdle}
use Rattle.cat_serve.specs.Workers.{ComesBack, ends_of}
use Rattle.cat_serve.specs.declared.worker.Worker.{Worker}
use Rattle.cat_serve.specs.ServingLaws.{grows_to_itself, grows_to_on}
use Rattle.cat_serve.proofs.Taking.{taken_on, taken_self}
use Rattle.cat_serve.proofs.Workers.{back_more, back_none, comes_back, comes_back_more, counts_on, numbered_pop, popped, popped_at}
use Rattle.cat_serve.proofs.serving.dismiss.Goals as goal

none_failed : (a b : Bool) → a ≡ false → b ≡ false → (a || b) ≡ false
none_failed a b e f = ap₂ (λ (x y : Bool). x || y) e f

pub loop-worker-init : goal.loop-worker-init
loop-worker-init g c = record {
  ready = c.requires.ready;
  others = c.requires.others;
  number = refl;
  stand = refl;
  spare = refl;
  grows = grows_to_itself c.args.pass.now;
  taken = λ number has. taken_self number c.args.pass.now has;
  idle = λ p one all. (one, refl, all);
  unserved = λ dealt none waits. (λ t. comes_back _ _, none, waits);
  back = λ attempts number ahead p dealt all numbered. (back_none (ends_of g.L.In.Source.left g.L.In.Source.faults g.L.Out.Sink.held g.L.Out.Sink.faults) c.args.desk.now attempts _ _ dealt _ _ _ _ _, all, numbered);
  counts = inl refl;
  tells = refl;
  listens = refl;
  waiting = refl;
  returned = refl;
  out = refl;
  twins = λ t. refl;
  dealt = refl;
}

pub take_back-failed-requires-clause-ready : goal.take_back-failed-requires-clause-ready
take_back-failed-requires-clause-ready g c κs within =
    let is : c.pop.result ≡ Some c.in-Some.worker = search rules in
    let q = popped (IsBack g.L.Listener.faults c.args.desk.now) _ _ _ c.in-Some.worker c.pop.ensures.items is c.loop-worker.invariant.others in
    (c.loop-worker.invariant.ready, q.1.ready)

pub loop-worker-preserved : goal.loop-worker-preserved
loop-worker-preserved g c =
    let i = c.loop-worker.invariant in
    let t = c.take_back-failed.ensures in
    let w : Worker g.row.L.Denot g.row.C.Denot = c.in-Some.worker in
    let is : c.pop.result ≡ Some c.in-Some.worker = search rules in
    let b = popped (IsBack g.L.Listener.faults c.args.desk.now) _ _ _ w c.pop.ensures.items is i.others in
    let long : length c.pop.new.self.items ≡ vec_len c.pop.new.self = search rules in
    let less : vec_len c.pop.new.self + 1 ≡ vec_len c.loop-worker.others = search rules in
    let here : IsTrue (g.L.Listener.tells c.args.listener.now) → IsTrue (g.L.Listener.tells c.loop-worker.listener) = λ x. subst (λ (y : Bool). IsTrue y) (sym i.tells) x in
    let some : IsTrue (g.L.Listener.tells c.args.listener.now) → 0 < g.L.Listener.twins c.loop-worker.listener = λ x. let e = i.twins x in let m = c.requires.twins x in omega arith in
    record {
      ready = t.ready;
      others = b.0;
      number = t.kept.0 ∙ i.number;
      stand = let e = t.kept.1 in let one = b.1.one in let s = i.stand in omega arith;
      spare = let e = t.kept.2 in let none = b.1.none in let s = i.spare in omega arith;
      grows = grows_to_on c.args.pass.now c.loop-worker.pass c.take_back-failed.new.pass i.grows t.grows.0;
      taken = λ number has. taken_on number c.args.pass.now c.loop-worker.pass c.take_back-failed.new.pass t.carries.0 (i.taken number has);
      idle = λ p one all.
          let r = i.idle p one all in
          let q = popped (IsIdle {L = g.row.L.Denot} {C = g.row.C.Denot} p) _ _ _ w c.pop.ensures.items is r.2 in
          (t.remembers p r.0 q.1.remembers, none_failed c.loop-worker.failed c.take_back-failed.result r.1 (t.failed ∙ q.1.works), q.0);
      unserved = λ dealt none waits.
          let r = i.unserved dealt none waits in
          let n = popped (HasNone g.L.Listener.returned) _ _ _ w c.pop.ensures.items is r.1 in
          let d =
          popped_at (λ (k : ℕ) (v : Worker g.row.L.Denot g.row.C.Denot). IsTrue (g.L.Listener.tells c.args.listener.now) → g.L.Listener.waiting v.listener ≡ first_of (drop k dealt)) _ _ _ w
          c.pop.ensures.items is r.2 in (
            λ x. comes_back_more _ _ _ dealt _ _ _ _ _ (r.0 x) n.1 (d.1 x ∙ ap (λ (k : ℕ). first_of (drop k dealt)) long) less (t.rejoined (here x) (some x)),
            n.0,
            d.0,
          );
      back = λ attempts number ahead p dealt all numbered.
          let r = i.back attempts number ahead p dealt all numbered in
          let n = numbered_pop number _ _ _ w c.pop.ensures.items is r.2 in
          let q =
          popped_at
          (λ (k : ℕ) (v : Worker g.row.L.Denot g.row.C.Denot). IsDone (ends_of g.L.In.Source.left g.L.In.Source.faults g.L.Out.Sink.held g.L.Out.Sink.faults) c.args.desk.now attempts
          g.L.Listener.waiting g.L.Listener.returned g.L.Listener.faults (g.L.Listener.tells c.args.listener.now) ahead p (first_of (drop k dealt)) v)
          _ _ _ w c.pop.ensures.items is r.1 in (
            back_more (ends_of g.L.In.Source.left g.L.In.Source.faults g.L.Out.Sink.held g.L.Out.Sink.faults) c.args.desk.now attempts _ _ dealt number p ahead g.L.Listener.waiting g.L.Listener.returned g.L.Listener.faults w
                c.loop-worker.failed c.take_back-failed.result _ _ _ _ _ c.loop-worker.pass _ r.0 (subst (λ (k : ℕ). IsDone (ends_of g.L.In.Source.left g.L.In.Source.faults g.L.Out.Sink.held g.L.Out.Sink.faults) c.args.desk.now attempts g.L.Listener.waiting g.L.Listener.returned g.L.Listener.faults
                (g.L.Listener.tells c.args.listener.now) ahead p (first_of (drop k dealt)) w) long q.1) t.failed (n.1 ∙ ap (λ (k : ℕ). number + k) long) less (λ x. t.rejoined (here x) (some x)) t.grows.0 t.grows.1 t.carries.0 t.carries.1,
            q.0,
            n.0,
          );
      counts = counts_on c.loop-worker.failed _ _ _ _ i.counts (t.counts b.1.counts);
      tells = t.stands.tells ∙ i.tells;
      listens = t.stands.listens ∙ i.listens;
      waiting = t.own.waiting ∙ i.waiting;
      returned = t.own.returned ∙ i.returned;
      out = t.own.out ∙ i.out;
      twins = λ x. let e = i.twins x in let m = some x in let n = t.twins (here x) in omega arith;
      dealt = t.dealt ∙ i.dealt;
    }

pub returns-clause-unserved : goal.returns-clause-unserved
returns-clause-unserved g c dealt none waits t =
    let all : vec_len c.loop-worker.others ≡ 0 = search rules in
    subst (λ (k : ℕ). ComesBack (drop k dealt) (drop (vec_len c.args.others) dealt) (g.L.Listener.rejoined c.args.listener.now) (g.L.Listener.rejoined c.loop-worker.listener)) all ((c.loop-worker.invariant.unserved dealt none waits).0 t)

pub returns-clause-grows : goal.returns-clause-grows
returns-clause-grows g c = c.loop-worker.invariant.grows

pub returns-clause-taken : goal.returns-clause-taken
returns-clause-taken g c number has = c.loop-worker.invariant.taken number has

pub returns-clause-idle : goal.returns-clause-idle
returns-clause-idle g c p one all = let r = c.loop-worker.invariant.idle p one all in (r.0, r.1)
