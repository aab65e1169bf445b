use Rattle.std.proofs.Common.{◌∙◌}
use Rattle.cat_work.specs.Turns.{Turned}
use Rattle.cat_work.proofs.AtOnce.{refers_comes}
use Rattle.cat_work.proofs.Turning.{turned}
use Rattle.cat_work.proofs.referring.refer_at.Goals as goal

pub returns-clause-comes : goal.returns-clause-comes
returns-clause-comes g c attempts = let held = c.enter-held.result.value in let left = c.refer-answer.new.self in let turn : Turned c.args.desk.now c.args.pass.now c.leave.new.pass held left =
    turned c.args.desk.now c.args.pass.now c.enter-held.new.pass c.leave.new.pass held left c.enter-held.ensures.turn.1 c.enter-held.ensures.legal.0 c.refer-answer.ensures.acts.opened c.enter-held.ensures.follows.0 c.enter-held.ensures.mark.0 c.enter-held.ensures.own c.enter-held.ensures.alone
    c.history.ensures.led c.history.ensures.draft c.history.ensures.base c.history-2.ensures.led c.history-2.ensures.draft c.history-2.ensures.base c.leave.ensures.seen.0 c.leave.ensures.mark.0 c.refer-answer.ensures.acts.later.grows c.leave.ensures.left in
    refers_comes c.args.desk.now c.args.command.now c.args.pass.now c.leave.new.pass attempts c.args.moment c.number.result held left c.refer-answer.result (c.number.ensures ∙ c.enter-held.ensures.turn.1) c.requires.kind c.requires.ready.none c.enter-held.ensures.legal.1 c.enter-held.ensures.follows.1 turn c.refer-answer.ensures.call
