use Rattle.std.proofs.Common.{rules, ◌≡◌, ◌+◌, drop, sym, ap, ◌∙◌, subst}
use Rattle.cat_desk.specs.Pass.{number_of}
use Rattle.cat_io.specs.Listening.{first_of}
use Rattle.cat_serve.specs.Hiring.{IsDone, IsHired}
use Rattle.cat_serve.specs.Workers.{ends_of}
use Rattle.cat_serve.specs.declared.worker.Worker.{Worker}
use Rattle.cat_serve.proofs.worker.serve_workers.Goals as goal

pub returns-clause-done : goal.returns-clause-done
returns-clause-done g c told ahead p dealt hired at k d lt =
    let h = (c.for_each_mut.ensures k d (search rules)).1 in
    subst
    (λ (w : Worker g.row.L.Denot g.row.C.Denot). IsDone (ends_of g.L.In.Source.left g.L.In.Source.faults g.L.Out.Sink.held g.L.Out.Sink.faults) c.args.desk.now c.args.settings.attempts g.L.Listener.waiting g.L.Listener.returned g.L.Listener.faults told ahead p
    (first_of (drop k dealt)) w)
    h.left
    (h.call.0 told ahead p (first_of (drop k dealt))
    (subst (λ (w : Worker g.row.L.Denot g.row.C.Denot). IsHired g.L.Listener.tells g.L.Listener.returned g.L.Listener.faults g.C.Clock.ahead told ahead c.args.desk.now p w) (sym h.argument_is) (hired k d (search rules)))
    (λ t. ap (λ (w : Worker g.row.L.Denot g.row.C.Denot). g.L.Listener.waiting w.listener) h.argument_is ∙ at k d (search rules) t))

pub returns-clause-numbered : goal.returns-clause-numbered
returns-clause-numbered g c number numbered k d lt =
    let h = (c.for_each_mut.ensures k d (search rules)).1 in
    subst (λ (w : Worker g.row.L.Denot g.row.C.Denot). number_of w.pass ≡ number + k) h.left
    (h.call.1 ∙ ap (λ (w : Worker g.row.L.Denot g.row.C.Denot). number_of w.pass) h.argument_is ∙ numbered k d (search rules))
