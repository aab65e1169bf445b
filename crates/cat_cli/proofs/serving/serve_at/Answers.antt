use Rattle.std.proofs.Common.{ℕ, ◌<◌, ◌^◌, ◌∙◌, inr, refl, subst, sym}
use Rattle.cat_io.specs.Causes.{Rose}
use Rattle.cat_cli.specs.Hosting.{heard_of}
use Rattle.cat_cli.proofs.HostedStores.{comes}
use Rattle.cat_cli.proofs.serving.serve_at.Goals as goal

pub returns-in-Ok-clause-comes : goal.returns-in-Ok-clause-comes
returns-in-Ok-clause-comes g c =
    let a = heard_of g.L.Listener.tells g.L.Listener.listens g.L.Listener.waiting g.L.Listener.returned g.L.Listener.rejoined g.L.Listener.out g.L.Listener.twins g.L.Listener.dealt g.L.Listener.faults c.args.listener.now in
    let m = heard_of g.L.Listener.tells g.L.Listener.listens g.L.Listener.waiting g.L.Listener.returned g.L.Listener.rejoined g.L.Listener.out g.L.Listener.twins g.L.Listener.dealt g.L.Listener.faults c.listen.new.self in
    let b = heard_of g.L.Listener.tells g.L.Listener.listens g.L.Listener.waiting g.L.Listener.returned g.L.Listener.rejoined g.L.Listener.out g.L.Listener.twins g.L.Listener.dealt g.L.Listener.faults c.serve_all.new.listener in
    comes _ _ a m b _ _ _ _ _ c.listen.ensures.tells c.listen.ensures.own.waiting c.listen.ensures.own.returned c.listen.ensures.others.rejoined c.listen.ensures.own.out c.listen.ensures.others.twins c.listen.ensures.others.dealt c.in-Ok.ensures.cause.stays
    c.in-Ok.ensures.hears.listening c.serve_all.ensures.stands.listens c.serve_all.ensures.away _ c.serve_all.result c.serve_all.ensures.serves c.serve_all.ensures.end c.serve_all.ensures.none
    c.serve_all.ensures.cause c.serve_all.ensures.stays

pub returns-in-Ok-clause-cause : goal.returns-in-Ok-clause-cause
returns-in-Ok-clause-cause g c failed = subst (λ (n : ℕ). Rose n (g.L.Listener.faults c.serve_all.new.listener)) c.in-Ok.ensures.cause.stays (c.serve_all.ensures.cause failed)

pub returns-in-Ok-clause-stays : goal.returns-in-Ok-clause-stays
returns-in-Ok-clause-stays g c other small = c.serve_all.ensures.stays other (subst (λ (n : ℕ). n < 2 ^ 64) (sym c.in-Ok.ensures.cause.stays) small) ∙ c.in-Ok.ensures.cause.stays

-- `listen` failed
pub returns-in-Err-clause-comes : goal.returns-in-Err-clause-comes
returns-in-Err-clause-comes g c = inr (
  (record { seen = refl; known = refl; mark = refl; turn = refl; all_left = refl }, refl),
  record {
    rose = c.in-Err.ensures.cause.failed;
    listens = c.in-Err.ensures.hears.short;
    waiting = c.listen.ensures.own.waiting;
    returned = c.listen.ensures.own.returned;
    rejoined = c.listen.ensures.others.rejoined;
    out = c.listen.ensures.own.out;
    twins = c.listen.ensures.others.twins;
    dealt = c.listen.ensures.others.dealt;
  },
)
