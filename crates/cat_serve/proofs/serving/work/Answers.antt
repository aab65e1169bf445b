use Rattle.std.proofs.Common.{◌≡◌, List, length, rules, subst, sym, ap, ◌∙◌}
use Rattle.std.proofs.lemmas.List.Elements.{All-same}
use Rattle.cat_serve.specs.Hiring.{AreDealt, AreDone, AreNumbered, IsHired}
use Rattle.cat_serve.specs.Workers.{ends_of}
use Rattle.cat_serve.specs.declared.worker.Worker.{Worker}
use Rattle.cat_serve.proofs.Workers.{written_back}
use Rattle.cat_serve.proofs.serving.work.Goals as goal

pub returns-clause-done : goal.returns-clause-done
returns-clause-done g c told ahead p dealt hired at =
    let served = c.join_mut-failed.ensures.1.met.1 in
    let is : c.join_mut-failed.new.g.3.now ≡ c.rest-1.given.0 = search rules in
    let long : length c.join_mut-failed.new.g.3.now ≡ c.args.others.now.len = served.0 ∙ c.as_mut_slice-rest.ensures.len in
    subst (λ (l : List (Worker g.row.L.Denot g.row.C.Denot)). AreDone (ends_of g.L.In.Source.left g.L.In.Source.faults g.L.Out.Sink.held g.L.Out.Sink.faults) c.args.desk.now c.args.settings.attempts g.L.Listener.waiting g.L.Listener.returned g.L.Listener.faults told ahead p dealt l)
    (sym (written_back c.args.others.now.len c.rest-1.given.0 c.args.others.now.items (sym (ap (λ (l : List (Worker g.row.L.Denot g.row.C.Denot)). length l) is) ∙ long)))
    (subst (λ (l : List (Worker g.row.L.Denot g.row.C.Denot)). AreDone (ends_of g.L.In.Source.left g.L.In.Source.faults g.L.Out.Sink.held g.L.Out.Sink.faults) c.args.desk.now c.args.settings.attempts g.L.Listener.waiting g.L.Listener.returned g.L.Listener.faults told ahead p dealt l) is
    (served.1.0 told ahead p dealt (All-same (IsHired g.L.Listener.tells g.L.Listener.returned g.L.Listener.faults g.C.Clock.ahead told ahead c.args.desk.now p) _ _ c.as_mut_slice-rest.ensures.value hired)
    (subst (λ (l : List (Worker g.row.L.Denot g.row.C.Denot)). AreDealt g.L.Listener.waiting told dealt l) (sym c.as_mut_slice-rest.ensures.value) at)))

pub returns-clause-numbered : goal.returns-clause-numbered
returns-clause-numbered g c number numbered =
    let served = c.join_mut-failed.ensures.1.met.1 in
    let is : c.join_mut-failed.new.g.3.now ≡ c.rest-1.given.0 = search rules in
    let long : length c.join_mut-failed.new.g.3.now ≡ c.args.others.now.len = served.0 ∙ c.as_mut_slice-rest.ensures.len in
    subst (λ (l : List (Worker g.row.L.Denot g.row.C.Denot)). AreNumbered number l)
    (sym (written_back c.args.others.now.len c.rest-1.given.0 c.args.others.now.items (sym (ap (λ (l : List (Worker g.row.L.Denot g.row.C.Denot)). length l) is) ∙ long)))
    (subst (λ (l : List (Worker g.row.L.Denot g.row.C.Denot)). AreNumbered number l) is
    (served.1.1 number (subst (λ (l : List (Worker g.row.L.Denot g.row.C.Denot)). AreNumbered number l) (sym c.as_mut_slice-rest.ensures.value) numbered)))
