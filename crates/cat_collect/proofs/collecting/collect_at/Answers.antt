use Rattle.std.proofs.Common.{Err, sym, subst, ◌∙◌}
use Rattle.cat_desk.specs.Pass.{known, seen, turn_of}
use Rattle.cat_model.specs.declared.refusal.Refused.{Refused}
use Rattle.cat_collect.specs.Turns.{Comes}
use Rattle.cat_collect.proofs.Settlings.{settles}
use Rattle.cat_collect.proofs.Told.{known_on, turned_on}
use Rattle.cat_model.specs.Turns.{place_after}
use Rattle.cat_collect.proofs.collecting.collect_at.Goals as goal

pub returns-in-Err-clause-comes : goal.returns-in-Err-clause-comes
returns-in-Err-clause-comes g c = c.in-Err.ensures.refused c.args.moment

pub returns-in-Failed-clause-comes : goal.returns-in-Failed-clause-comes
returns-in-Failed-clause-comes g c =
    subst (λ (x : Refused). Comes c.args.desk.now c.args.policy c.args.moment c.args.pass.now c.next_round.new.pass (Err x)) (sym c.out_of_memory.ensures)
    (c.in-Failed.ensures.goes c.args.policy c.args.pass.now c.loop-number.invariant.0.1 c.args.moment)

pub settle-requires-clause-holds : goal.settle-requires-clause-holds
settle-requires-clause-holds g c κs within = (c.in-Still.ensures.goes c.args.policy c.args.pass.now c.loop-number.invariant.0.1).0

pub returns-in-Still-clause-comes : goal.returns-in-Still-clause-comes
returns-in-Still-clause-comes g c =
    settles g.row.K.Denot c.args.desk.now c.args.policy c.args.moment c.args.pass.now c.next_round.new.pass c.settle.new.pass c.settle.result (c.in-Still.ensures.goes c.args.policy c.args.pass.now c.loop-number.invariant.0.1).1 c.settle.ensures.legal c.settle.ensures.settled

pub loop-number-preserved : goal.loop-number-preserved
loop-number-preserved g c = (
  c.in-On.ensures.goes c.args.policy c.args.pass.now c.loop-number.invariant.0.1,
  c.in-On.ensures.gate.0,
  c.in-On.ensures.gate.1 ∙ c.loop-number.invariant.2,
  c.in-On.ensures.legal,
  known_on (known c.args.pass.now) (known c.loop-number.pass) (known c.next_round.new.pass) (place_after c.args.desk.now.opened (seen c.next_round.new.pass)) c.loop-number.invariant.4 c.in-On.ensures.known.0 c.in-On.ensures.known.1,
  turned_on (turn_of c.args.pass.now) (turn_of c.loop-number.pass) (turn_of c.next_round.new.pass) c.loop-number.invariant.5 c.in-On.ensures.turn,
)

pub returns-clause-comes : goal.returns-clause-comes
returns-clause-comes g c = settles g.row.K.Denot c.args.desk.now c.args.policy c.args.moment c.args.pass.now c.loop-number.pass c.settle-2.new.pass c.settle-2.result c.loop-number.invariant.0.1 c.settle-2.ensures.legal c.settle-2.ensures.settled
