use Rattle.std.proofs.Common.{rules, ◌≡◌, ℕ, refl, subst, ◌∙◌}
use Rattle.cat_desk.specs.Pass.{known, seen, turn_of}
use Rattle.cat_work.specs.Turns.{Going}
use Rattle.cat_work.proofs.Endings.{begins, goes_on}
use Rattle.cat_work.proofs.Ended.{comes_early, comes_late}
use Rattle.cat_work.proofs.Unopened.{begins_none, knows_all, known_on, turned_on}
use Rattle.cat_model.specs.Turns.{place_after}
use Rattle.cat_work.proofs.calls.make_at.Goals as goal

pub returns-in-Err-clause-comes : goal.returns-in-Err-clause-comes
returns-in-Err-clause-comes g c = begins_none g.row.K.Denot c.args.desk.now c.args.command.now c.args.pass.now c.begin.new.pass c.args.attempts c.args.moment c.in-Err.refused c.requires.opens c.requires.ready.none c.in-Err.ensures.refused.0

pub loop-number-init : goal.loop-number-init
loop-number-init g c = (
  begins g.row.K.Denot c.args.desk.now c.args.command.now c.args.pass.now c.begin.new.pass c.in-Ok.trying c.args.attempts c.requires.ready.none c.in-Ok.ensures.legal c.in-Ok.ensures.kept c.in-Ok.ensures.known.0 c.in-Ok.ensures.begun.1 c.in-Ok.ensures.begun.0,
  c.requires.gate,
  refl,
  c.in-Ok.ensures.legal,
  known_on (known c.args.pass.now) (place_after c.args.desk.now.opened (seen c.begin.new.pass)) (known c.begin.new.pass) (place_after c.args.desk.now.opened (seen c.begin.new.pass)) c.in-Ok.ensures.known.0 (search rules) c.in-Ok.ensures.known.1,
  c.in-Ok.ensures.turn,
)

pub returns-in-Ended-clause-known : goal.returns-in-Ended-clause-known
returns-in-Ended-clause-known g c = knows_all c.args.desk.now c.args.pass.now c.attempt.new.pass c.in-Ended.answer
    (known_on (known c.args.pass.now) (known c.loop-number.pass) (known c.attempt.new.pass) (place_after c.args.desk.now.opened (seen c.attempt.new.pass)) c.loop-number.invariant.4 c.in-Ended.ensures.known.0 c.in-Ended.ensures.known.1) c.in-Ended.ensures.known.1
    (turned_on (turn_of c.args.pass.now) (turn_of c.loop-number.pass) (turn_of c.attempt.new.pass) c.loop-number.invariant.5 c.in-Ended.ensures.turn)

pub returns-in-Ended-clause-comes : goal.returns-in-Ended-clause-comes
returns-in-Ended-clause-comes g c = let x = c.in-Ended.ensures.tried in
    comes_early c.args.desk.now c.args.command.now c.args.pass.now c.loop-number.pass c.attempt.new.pass c.loop-number.trying c.args.attempts c.loop-number.number c.args.moment x.0 x.1 c.in-Ended.answer c.requires.opens c.loop-number.invariant.0 c.in-Ended.ensures.legal x.2 x.3

pub loop-number-preserved : goal.loop-number-preserved
loop-number-preserved g c = let x = c.in-On.ensures.tried in (
  goes_on c.args.desk.now c.args.command.now c.args.pass.now c.loop-number.pass c.attempt.new.pass c.loop-number.trying c.in-On.next c.args.attempts c.loop-number.number x.0 x.1 c.loop-number.invariant.0 c.in-On.ensures.kept c.in-On.ensures.legal x.2 x.3 x.4,
  c.in-On.ensures.gate.0,
  c.in-On.ensures.gate.1 ∙ c.loop-number.invariant.2,
  c.in-On.ensures.legal,
  known_on (known c.args.pass.now) (known c.loop-number.pass) (known c.attempt.new.pass) (place_after c.args.desk.now.opened (seen c.attempt.new.pass)) c.loop-number.invariant.4 c.in-On.ensures.known.0 c.in-On.ensures.known.1,
  turned_on (turn_of c.args.pass.now) (turn_of c.loop-number.pass) (turn_of c.attempt.new.pass) c.loop-number.invariant.5 c.in-On.ensures.turn,
)

pub returns-clause-known : goal.returns-clause-known
returns-clause-known g c = knows_all c.args.desk.now c.args.pass.now c.finish.new.pass c.finish.result
    (known_on (known c.args.pass.now) (known c.loop-number.pass) (known c.finish.new.pass) (place_after c.args.desk.now.opened (seen c.finish.new.pass)) c.loop-number.invariant.4 c.finish.ensures.known.0 c.finish.ensures.known.1) c.finish.ensures.known.1
    (turned_on (turn_of c.args.pass.now) (turn_of c.loop-number.pass) (turn_of c.finish.new.pass) c.loop-number.invariant.5 c.finish.ensures.turn)

pub returns-clause-comes : goal.returns-clause-comes
returns-clause-comes g c = let x = c.finish.ensures.finishes in let at : c.loop-number.number ≡ c.args.attempts = search rules in
    comes_late c.args.desk.now c.args.command.now c.args.pass.now c.loop-number.pass c.finish.new.pass c.loop-number.trying c.args.attempts c.args.moment x.0 x.1 c.finish.result c.requires.opens
    (subst (λ (n : ℕ). Going c.args.desk.now c.args.command.now c.args.pass.now c.loop-number.pass c.loop-number.trying c.args.attempts n) at c.loop-number.invariant.0) c.finish.ensures.legal x.2 x.3
