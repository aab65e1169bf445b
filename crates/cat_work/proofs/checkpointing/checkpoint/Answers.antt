use Rattle.std.proofs.Common.{◌∙◌, ◌<◌, rules}
use Rattle.cat_desk.specs.Pass.{turn_of}
use Rattle.cat_work.specs.ReadyLaws.{ready_on}
use Rattle.cat_work.specs.TurnLaws.{grew_in}
use Rattle.cat_work.specs.Turns.{Turned}
use Rattle.cat_work.proofs.Checking.{checks_to, knows_to}
use Rattle.cat_work.proofs.Turning.{turned}
use Rattle.cat_work.proofs.Unopened.{none_still}
use Rattle.cat_work.proofs.checkpointing.checkpoint.Goals as goal

pub returns-clause-checks : goal.returns-clause-checks
returns-clause-checks g c =
    let held = c.enter-held.result.value in let left = c.checkpoint-told.new.self in let turn : Turned c.args.desk.now c.args.pass.now c.leave.new.pass held left =
    turned c.args.desk.now c.args.pass.now c.enter-held.new.pass c.leave.new.pass held left c.enter-held.ensures.turn.1 c.enter-held.ensures.legal.0 c.checkpoint-told.ensures.acts.opened c.enter-held.ensures.follows.0 c.enter-held.ensures.mark.0 c.enter-held.ensures.own c.enter-held.ensures.alone
    c.history.ensures.led c.history.ensures.draft c.history.ensures.base c.history-2.ensures.led c.history-2.ensures.draft c.history-2.ensures.base c.leave.ensures.seen.0 c.leave.ensures.mark.0 c.checkpoint-told.ensures.acts.later.grows c.leave.ensures.left in
    (checks_to c.args.desk.now c.args.pass.now c.leave.new.pass c.number.result held left c.checkpoint-told.result (c.number.ensures ∙ c.enter-held.ensures.turn.1) turn c.sweep_is_told.ensures.marked c.requires.ready.none c.checkpoint-told.ensures.checkpoints).0

pub returns-clause-undrafted : goal.returns-clause-undrafted
returns-clause-undrafted g c =
    let held = c.enter-held.result.value in let left = c.checkpoint-told.new.self in let turn : Turned c.args.desk.now c.args.pass.now c.leave.new.pass held left =
    turned c.args.desk.now c.args.pass.now c.enter-held.new.pass c.leave.new.pass held left c.enter-held.ensures.turn.1 c.enter-held.ensures.legal.0 c.checkpoint-told.ensures.acts.opened c.enter-held.ensures.follows.0 c.enter-held.ensures.mark.0 c.enter-held.ensures.own c.enter-held.ensures.alone
    c.history.ensures.led c.history.ensures.draft c.history.ensures.base c.history-2.ensures.led c.history-2.ensures.draft c.history-2.ensures.base c.leave.ensures.seen.0 c.leave.ensures.mark.0 c.checkpoint-told.ensures.acts.later.grows c.leave.ensures.left in
    (checks_to c.args.desk.now c.args.pass.now c.leave.new.pass c.number.result held left c.checkpoint-told.result (c.number.ensures ∙ c.enter-held.ensures.turn.1) turn c.sweep_is_told.ensures.marked c.requires.ready.none c.checkpoint-told.ensures.checkpoints).1

pub returns-clause-unswept : goal.returns-clause-unswept
returns-clause-unswept g c =
    let held = c.enter-held.result.value in let left = c.checkpoint-told.new.self in let turn : Turned c.args.desk.now c.args.pass.now c.leave.new.pass held left =
    turned c.args.desk.now c.args.pass.now c.enter-held.new.pass c.leave.new.pass held left c.enter-held.ensures.turn.1 c.enter-held.ensures.legal.0 c.checkpoint-told.ensures.acts.opened c.enter-held.ensures.follows.0 c.enter-held.ensures.mark.0 c.enter-held.ensures.own c.enter-held.ensures.alone
    c.history.ensures.led c.history.ensures.draft c.history.ensures.base c.history-2.ensures.led c.history-2.ensures.draft c.history-2.ensures.base c.leave.ensures.seen.0 c.leave.ensures.mark.0 c.checkpoint-told.ensures.acts.later.grows c.leave.ensures.left in
    (checks_to c.args.desk.now c.args.pass.now c.leave.new.pass c.number.result held left c.checkpoint-told.result (c.number.ensures ∙ c.enter-held.ensures.turn.1) turn c.sweep_is_told.ensures.marked c.requires.ready.none c.checkpoint-told.ensures.checkpoints).2

pub returns-clause-grows : goal.returns-clause-grows
returns-clause-grows g c =
    let held = c.enter-held.result.value in let left = c.checkpoint-told.new.self in let turn : Turned c.args.desk.now c.args.pass.now c.leave.new.pass held left =
    turned c.args.desk.now c.args.pass.now c.enter-held.new.pass c.leave.new.pass held left c.enter-held.ensures.turn.1 c.enter-held.ensures.legal.0 c.checkpoint-told.ensures.acts.opened c.enter-held.ensures.follows.0 c.enter-held.ensures.mark.0 c.enter-held.ensures.own c.enter-held.ensures.alone
    c.history.ensures.led c.history.ensures.draft c.history.ensures.base c.history-2.ensures.led c.history-2.ensures.draft c.history-2.ensures.base c.leave.ensures.seen.0 c.leave.ensures.mark.0 c.checkpoint-told.ensures.acts.later.grows c.leave.ensures.left in
    grew_in c.args.desk.now c.args.pass.now c.leave.new.pass held left turn

pub returns-clause-ready : goal.returns-clause-ready
returns-clause-ready g c =
    let held = c.enter-held.result.value in let left = c.checkpoint-told.new.self in let turn : Turned c.args.desk.now c.args.pass.now c.leave.new.pass held left =
    turned c.args.desk.now c.args.pass.now c.enter-held.new.pass c.leave.new.pass held left c.enter-held.ensures.turn.1 c.enter-held.ensures.legal.0 c.checkpoint-told.ensures.acts.opened c.enter-held.ensures.follows.0 c.enter-held.ensures.mark.0 c.enter-held.ensures.own c.enter-held.ensures.alone
    c.history.ensures.led c.history.ensures.draft c.history.ensures.base c.history-2.ensures.led c.history-2.ensures.draft c.history-2.ensures.base c.leave.ensures.seen.0 c.leave.ensures.mark.0 c.checkpoint-told.ensures.acts.later.grows c.leave.ensures.left in
    let all = checks_to c.args.desk.now c.args.pass.now c.leave.new.pass c.number.result held left c.checkpoint-told.result (c.number.ensures ∙ c.enter-held.ensures.turn.1) turn c.sweep_is_told.ensures.marked c.requires.ready.none c.checkpoint-told.ensures.checkpoints in
    ready_on c.args.desk.now c.args.pass.now c.leave.new.pass c.requires.ready (search rules) (none_still c.args.desk.now c.args.pass.now c.leave.new.pass held left c.requires.ready.none turn all.3) (search rules) (all.0.follows.0, all.0.follows.1)

pub returns-clause-known : goal.returns-clause-known
returns-clause-known g c =
    let held = c.enter-held.result.value in let left = c.checkpoint-told.new.self in let turn : Turned c.args.desk.now c.args.pass.now c.leave.new.pass held left =
    turned c.args.desk.now c.args.pass.now c.enter-held.new.pass c.leave.new.pass held left c.enter-held.ensures.turn.1 c.enter-held.ensures.legal.0 c.checkpoint-told.ensures.acts.opened c.enter-held.ensures.follows.0 c.enter-held.ensures.mark.0 c.enter-held.ensures.own c.enter-held.ensures.alone
    c.history.ensures.led c.history.ensures.draft c.history.ensures.base c.history-2.ensures.led c.history-2.ensures.draft c.history-2.ensures.base c.leave.ensures.seen.0 c.leave.ensures.mark.0 c.checkpoint-told.ensures.acts.later.grows c.leave.ensures.left in
    let later : turn_of c.args.pass.now < turn_of c.leave.new.pass = search rules in
    knows_to c.args.desk.now c.args.pass.now c.leave.new.pass c.number.result held left c.checkpoint-told.result turn c.checkpoint-told.ensures.checkpoints c.enter-held.ensures.follows.1 c.leave.ensures.seen.1 later
