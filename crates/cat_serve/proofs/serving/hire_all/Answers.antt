use Rattle.std.proofs.Common.{◌≡◌, ℕ, ◌<◌, ◌≤◌, List, drop, length, Bool, IsTrue, Option, Some, vec_len, rules, arith, refl, sym, ap, ◌∙◌, subst}
use Rattle.std.specs.List.{All}
use Rattle.std.specs.Option.{option_to_list}
use Rattle.std.proofs.lemmas.List.Elements.{All-push}
use Rattle.cat_desk.specs.Pass.{number_of, spare_of}
use Rattle.cat_serve.specs.Hiring.{AreDealt, AreNumbered, IsHired}
use Rattle.cat_serve.specs.Workers.{first_split}
use Rattle.cat_serve.specs.declared.worker.Worker.{Worker}
use Rattle.cat_serve.proofs.Lending.{remembers_on, remembers_self}
use Rattle.cat_serve.proofs.Workers.{all_none, dealt_none, dealt_push, next_dealt, numbered_next, numbered_none, numbered_push, spare_within}
use Rattle.cat_serve.proofs.serving.hire_all.Goals as goal

pub hiring-init : goal.hiring-init
hiring-init g c =
    let none : vec_len c.args.others.now ≡ 0 = search rules in
    record {
      ready = c.requires.ready;
      remembers = remembers_self c.args.pass.now;
      hired = all_none (IsHired g.L.Listener.tells g.L.Listener.returned g.L.Listener.faults g.C.Clock.ahead (g.L.Listener.tells c.args.listener.now) (g.C.Clock.ahead c.args.clock.now) c.args.desk.now c.args.pass.now) _ c.requires.empty;
      numbered = numbered_none (first_split c.args.pass.now) _ c.requires.empty;
      number = refl;
      stand = refl;
      spare = omega (arith, none);
      bound = λ some. absurd (omega (arith, none, some));
      within = omega (arith, none);
      room = c.requires.room.0;
      faults = refl;
      tells = refl;
      listens = refl;
      waiting = refl;
      returned = refl;
      out = refl;
      rejoined = refl;
      twins = λ t. omega (arith, none);
      dealt = dealt_none g.L.Listener.waiting (g.L.Listener.tells c.args.listener.now) (g.L.Listener.dealt c.args.listener.now) _ c.requires.empty;
      rest = λ t. ap (λ (n : ℕ). drop n (g.L.Listener.dealt c.args.listener.now)) (sym none);
    }

pub hiring-preserved : goal.hiring-preserved
hiring-preserved g c =
    let i = c.hiring.invariant in
    let s = c.in-Some.ensures in
    let w : Worker g.row.L.Denot g.row.C.Denot = c.in-Some.worker in
    let here : IsTrue (g.L.Listener.tells c.args.listener.now) → IsTrue (g.L.Listener.tells c.hiring.listener) = λ t. subst (λ (b : Bool). IsTrue b) (sym i.tells) t in
    let is : c.hire.result ≡ Some c.in-Some.worker = search rules in
    let one : length (option_to_list c.hire.result) ≡ 1 = ap (λ (o : Option (Worker g.row.L.Denot g.row.C.Denot)). length (option_to_list o)) is in
    let long : length c.hiring.others.items ≡ vec_len c.hiring.others = search rules in
    let few : vec_len c.hiring.others < c.args.count = search rules in
    let bound : spare_of c.args.pass.now ≤ 4294967296 = spare_within (vec_len c.hiring.others) (spare_of c.hiring.pass) (spare_of c.args.pass.now) (number_of w.pass) i.bound i.spare s.number in
    let hired : IsHired g.L.Listener.tells g.L.Listener.returned g.L.Listener.faults g.C.Clock.ahead (g.L.Listener.tells c.args.listener.now) (g.C.Clock.ahead c.args.clock.now) c.args.desk.now c.args.pass.now w =
    record {
      back = s.hired.back;
      idle = record { remembers = remembers_on _ _ _ i.remembers s.hired.idle.remembers; works = s.hired.idle.works };
      tells_is = s.hired.tells_is ∙ i.tells;
      empty = s.hired.empty;
      faultless = s.hired.faultless;
      same = s.hired.same;
    } in
    record {
      ready = s.ready;
      remembers = remembers_on _ _ _ i.remembers s.remembers;
      hired =
          subst
          (λ (l : List (Worker g.row.L.Denot g.row.C.Denot)). All (IsHired g.L.Listener.tells g.L.Listener.returned g.L.Listener.faults g.C.Clock.ahead (g.L.Listener.tells c.args.listener.now) (g.C.Clock.ahead c.args.clock.now) c.args.desk.now c.args.pass.now) l)
          (sym c.push_reserved.ensures.items)
          (All-push (IsHired g.L.Listener.tells g.L.Listener.returned g.L.Listener.faults g.C.Clock.ahead (g.L.Listener.tells c.args.listener.now) (g.C.Clock.ahead c.args.clock.now) c.args.desk.now c.args.pass.now)
          c.hiring.others.items w i.hired hired);
      numbered =
          subst (λ (l : List (Worker g.row.L.Denot g.row.C.Denot)). AreNumbered (first_split c.args.pass.now) l) (sym c.push_reserved.ensures.items)
          (numbered_push (first_split c.args.pass.now) c.hiring.others.items w i.numbered
          (numbered_next (vec_len c.hiring.others) (length c.hiring.others.items) (spare_of c.hiring.pass) (spare_of c.args.pass.now) (number_of w.pass) bound i.spare s.number long));
      number = s.kept.0 ∙ i.number;
      stand = s.kept.1 ∙ i.stand;
      spare = let a = c.hire.ensures.kept.2 in let b = i.spare in let l = c.push_reserved.ensures.len in omega (arith, one, a, b, l);
      bound = λ some. bound;
      within = let l = c.push_reserved.ensures.len in omega (arith, few, l);
      room = let l = c.push_reserved.ensures.capacity in let r = i.room in omega (arith, l, r);
      faults = s.faults ∙ i.faults;
      tells = s.stands.tells ∙ i.tells;
      listens = s.stands.listens ∙ i.listens;
      waiting = s.own.waiting ∙ i.waiting;
      returned = s.own.returned ∙ i.returned;
      out = s.own.out ∙ i.out;
      rejoined = s.rejoined ∙ i.rejoined;
      twins = λ t. let a = c.hire.ensures.twins (here t) in let b = i.twins t in let l = c.push_reserved.ensures.len in omega (arith, one, a, b, l);
      dealt =
          subst (λ (l : List (Worker g.row.L.Denot g.row.C.Denot)). AreDealt g.L.Listener.waiting (g.L.Listener.tells c.args.listener.now) (g.L.Listener.dealt c.args.listener.now) l) (sym c.push_reserved.ensures.items)
          (dealt_push g.L.Listener.waiting (g.L.Listener.tells c.args.listener.now) (g.L.Listener.dealt c.args.listener.now) c.hiring.others.items w i.dealt
          (λ t. (next_dealt g.L.Listener.waiting (g.L.Listener.dealt c.args.listener.now) _ _ (length c.hiring.others.items) w.listener
          (i.rest t ∙ ap (λ (n : ℕ). drop n (g.L.Listener.dealt c.args.listener.now)) (sym long)) (s.deals (here t))).0));
      rest = λ t.
          (next_dealt g.L.Listener.waiting (g.L.Listener.dealt c.args.listener.now) _ _ (vec_len c.hiring.others) w.listener (i.rest t) (s.deals (here t))).1
          ∙ ap (λ (n : ℕ). drop n (g.L.Listener.dealt c.args.listener.now)) (sym c.push_reserved.ensures.len);
    }
