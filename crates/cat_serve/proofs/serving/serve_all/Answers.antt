use Rattle.std.proofs.Common.{inl, ◌≡◌, ◌+◌, ℕ, Bool, IsTrue, List, true, false, drop, vec_len, rules, arith, refl, sym, ap, ◌∙◌, subst}
use Rattle.std.specs.List.{All}
use Rattle.cat_desk.specs.Pass.{number_of, spare_of}
use Rattle.cat_serve.specs.Hiring.{AreDealt, Counts, IsHired}
use Rattle.cat_serve.specs.Workers.{ComesBack, ends_of, first_split}
use Rattle.cat_serve.proofs.Workers.{counts_none, rose_of, serves_all}
use Rattle.cat_serve.proofs.serving.serve_all.Goals as goal

pub returns-then-not-hire_all-clause-none : goal.returns-then-not-hire_all-clause-none
returns-then-not-hire_all-clause-none g c is =
    let idle = c.dismiss.ensures.idle c.args.pass.now c.hire_all.ensures.remembers (λ k d lt. (c.hire_all.ensures.hired k d lt).idle) in
    let tells : g.L.Listener.tells c.hire_all.new.listener ≡ g.L.Listener.tells c.args.listener.now = c.hire_all.ensures.stands.tells in
    let dealt = subst (λ (b : Bool). AreDealt g.L.Listener.waiting b (g.L.Listener.dealt c.args.listener.now) c.hire_all.new.others.items) (sym tells) c.hire_all.ensures.dealt in
    let back = c.dismiss.ensures.unserved (g.L.Listener.dealt c.args.listener.now) (λ k d lt. (c.hire_all.ensures.hired k d lt).empty) dealt in (
      idle.0,
      refl,
      λ t. (
        c.dismiss.ensures.own.waiting ∙ c.hire_all.ensures.own.waiting,
        c.dismiss.ensures.own.returned ∙ c.hire_all.ensures.own.returned,
        subst (λ (left : List (List _)). ComesBack (g.L.Listener.dealt c.args.listener.now) left (g.L.Listener.rejoined c.args.listener.now) (g.L.Listener.rejoined c.dismiss.new.listener)) (sym (c.dismiss.ensures.dealt ∙ c.hire_all.ensures.rest t))
            (subst (λ (groups : List (List _)). ComesBack (g.L.Listener.dealt c.args.listener.now) (drop (vec_len c.hire_all.new.others) (g.L.Listener.dealt c.args.listener.now)) groups (g.L.Listener.rejoined c.dismiss.new.listener)) c.hire_all.ensures.rejoined
            (back (subst (λ (b : Bool). IsTrue b) (sym tells) t))),
      ),
    )

pub returns-then-not-hire_all-clause-stays : goal.returns-then-not-hire_all-clause-stays
returns-then-not-hire_all-clause-stays g c other small =
    let idle = c.dismiss.ensures.idle c.args.pass.now c.hire_all.ensures.remembers (λ k d lt. (c.hire_all.ensures.hired k d lt).idle) in
    let counts = subst (λ (b : Bool). Counts b (g.L.Listener.faults c.hire_all.new.listener) (g.L.Listener.faults c.dismiss.new.listener)) idle.1 c.dismiss.ensures.counts in
    counts_none _ _ (subst (λ (n : ℕ). Counts false n (g.L.Listener.faults c.dismiss.new.listener)) c.hire_all.ensures.faults counts) (omega arith)

pub dismiss-others_failed-requires-clause-others : goal.dismiss-others_failed-requires-clause-others
dismiss-others_failed-requires-clause-others g c κs within k d lt = (c.work-own_failed.ensures.done _ _ c.args.pass.now _ c.hire_all.ensures.hired c.hire_all.ensures.dealt k d lt).back

pub returns-clause-serves : goal.returns-clause-serves
returns-clause-serves g c some =
    let w = c.work-own_failed.ensures in
    let d = c.dismiss-others_failed.ensures in
    let tells : g.L.Listener.tells c.work-own_failed.new.listener ≡ g.L.Listener.tells c.args.listener.now = w.stands.tells ∙ c.hire_all.ensures.stands.tells in
    let hired =
    subst (λ (b : Bool). All (IsHired g.L.Listener.tells g.L.Listener.returned g.L.Listener.faults g.C.Clock.ahead b (g.C.Clock.ahead c.args.clock.now) c.args.desk.now c.args.pass.now) c.hire_all.new.others.items) (sym tells) c.hire_all.ensures.hired in
    let dealt =
    subst (λ (b : Bool). AreDealt g.L.Listener.waiting b (g.L.Listener.dealt c.args.listener.now) c.hire_all.new.others.items) (sym tells) c.hire_all.ensures.dealt in
    let all : c.hire_all.result ≡ true = search rules in
    let count : vec_len c.work-own_failed.new.others + 1 ≡ c.args.workers = let e = c.hire_all.ensures.all all in let f = w.len in let m = c.requires.workers.0 in omega arith in
    let spare : spare_of c.dismiss-others_failed.new.pass + vec_len c.work-own_failed.new.others ≡ spare_of c.args.pass.now =
    let a = d.kept.2 in let b = w.kept.spare in let e = c.hire_all.ensures.kept.2 in let f = w.len in omega arith in
    serves_all (ends_of g.L.In.Source.left g.L.In.Source.faults g.L.Out.Sink.held g.L.Out.Sink.faults) c.args.desk.now c.args.settings.attempts c.args.workers _ _ _ _ _ _ _ _ _ _ _ _ _ _ _ (g.L.Listener.dealt c.args.listener.now) _ c.dismiss-others_failed.result _ _
    c.args.pass.now _ _ _ _ _
    c.hire_all.ensures.remembers c.hire_all.ensures.kept.0 w.serves d.grows (d.taken (number_of c.args.pass.now) (inl (sym (w.kept.number ∙ c.hire_all.ensures.kept.0)))) spare
    (d.back c.args.settings.attempts (first_split c.args.pass.now) (g.C.Clock.ahead c.args.clock.now) c.args.pass.now (g.L.Listener.dealt c.args.listener.now)
    (w.done (g.L.Listener.tells c.work-own_failed.new.listener) (g.C.Clock.ahead c.args.clock.now) c.args.pass.now (g.L.Listener.dealt c.args.listener.now) hired dealt)
    (w.numbered (first_split c.args.pass.now) c.hire_all.ensures.numbered))
    (rose_of _ _ _ _ _ (subst (λ (n : ℕ). Counts c.work-own_failed.result n (g.L.Listener.faults c.work-own_failed.new.listener)) c.hire_all.ensures.faults w.counts) d.counts)
    (λ t. d.dealt ∙ w.others.dealt ∙ c.hire_all.ensures.rest t ∙ ap (λ (n : ℕ). drop n (g.L.Listener.dealt c.args.listener.now)) (sym w.len)) count
    c.hire_all.ensures.stands.tells tells c.hire_all.ensures.own.waiting d.own.waiting c.hire_all.ensures.own.returned d.own.returned (w.others.rejoined ∙ c.hire_all.ensures.rejoined)
