use Rattle.std.proofs.Common.{refl, sym, ap, subst, ◌∙◌}
use Rattle.sha2.specs.Sha256.{sha256}
use Rattle.cat_desk.specs.Log.{Follows}
use Rattle.cat_desk.specs.Marks.{Linked}
use Rattle.cat_desk.specs.Pass.{mark_of, number_of, seen}
use Rattle.cat_model.specs.Book.{Book, Reads}
use Rattle.cat_model.specs.Mark.{Mark}
use Rattle.cat_model.specs.TurnLaws.{grows_self}
use Rattle.cat_work.specs.ReadyLaws.{ready_on}
use Rattle.cat_work.specs.Turns.{Turned}
use Rattle.cat_work.proofs.Telling.{book_found, grew_in, left_by_turn}
use Rattle.cat_work.proofs.Turning.{turned}
use Rattle.cat_work.proofs.Unopened.{none_still, same_open}
use Rattle.cat_work.proofs.reading.read.Goals as goal

pub returns-clause-ready : goal.returns-clause-ready
returns-clause-ready g c = let held = c.enter-held.result.value in let turn : Turned c.args.desk.now c.args.pass.now c.leave.new.pass held held =
    turned c.args.desk.now c.args.pass.now c.enter-held.new.pass c.leave.new.pass held held c.enter-held.ensures.turn.1 c.enter-held.ensures.legal.0 refl c.enter-held.ensures.follows.0 c.enter-held.ensures.mark.0 c.enter-held.ensures.own c.enter-held.ensures.alone
    c.history.ensures.led c.history.ensures.draft c.history.ensures.base c.history.ensures.led c.history.ensures.draft c.history.ensures.base c.leave.ensures.seen.0 c.leave.ensures.mark.0 (grows_self held.mark) c.leave.ensures.left in
    let follows = subst (Follows (number_of c.args.pass.now) (seen c.args.pass.now)) (sym turn.seen_is) turn.follows in
    ready_on c.args.desk.now c.args.pass.now c.leave.new.pass c.requires.ready c.leave.ensures.free.0 (none_still c.args.desk.now c.args.pass.now c.leave.new.pass held held c.requires.ready.none turn refl) c.leave.ensures.legal (follows.0, follows.1)

pub returns-clause-grows : goal.returns-clause-grows
returns-clause-grows g c = let held = c.enter-held.result.value in let turn : Turned c.args.desk.now c.args.pass.now c.leave.new.pass held held =
    turned c.args.desk.now c.args.pass.now c.enter-held.new.pass c.leave.new.pass held held c.enter-held.ensures.turn.1 c.enter-held.ensures.legal.0 refl c.enter-held.ensures.follows.0 c.enter-held.ensures.mark.0 c.enter-held.ensures.own c.enter-held.ensures.alone
    c.history.ensures.led c.history.ensures.draft c.history.ensures.base c.history.ensures.led c.history.ensures.draft c.history.ensures.base c.leave.ensures.seen.0 c.leave.ensures.mark.0 (grows_self held.mark) c.leave.ensures.left in
    grew_in c.args.desk.now c.args.pass.now c.leave.new.pass held held turn

pub returns-clause-linked : goal.returns-clause-linked
returns-clause-linked g c = subst (Linked (number_of c.args.pass.now) (mark_of c.args.pass.now)) (sym c.leave.ensures.mark.0) c.enter-held.ensures.mark.0

pub returns-clause-reads : goal.returns-clause-reads
returns-clause-reads g c = let held = c.enter-held.result.value in let turn : Turned c.args.desk.now c.args.pass.now c.leave.new.pass held held =
    turned c.args.desk.now c.args.pass.now c.enter-held.new.pass c.leave.new.pass held held c.enter-held.ensures.turn.1 c.enter-held.ensures.legal.0 refl c.enter-held.ensures.follows.0 c.enter-held.ensures.mark.0 c.enter-held.ensures.own c.enter-held.ensures.alone
    c.history.ensures.led c.history.ensures.draft c.history.ensures.base c.history.ensures.led c.history.ensures.draft c.history.ensures.base c.leave.ensures.seen.0 c.leave.ensures.mark.0 (grows_self held.mark) c.leave.ensures.left in
    subst (λ (b : Book). Reads sha256 b c.args.ask.now c.read-told.result) (sym (left_by_turn c.args.desk.now c.args.pass.now c.leave.new.pass held held turn).book_is) c.read-told.ensures

pub returns-clause-alone : goal.returns-clause-alone
returns-clause-alone g c only = let held = c.enter-held.result.value in let turn : Turned c.args.desk.now c.args.pass.now c.leave.new.pass held held =
    turned c.args.desk.now c.args.pass.now c.enter-held.new.pass c.leave.new.pass held held c.enter-held.ensures.turn.1 c.enter-held.ensures.legal.0 refl c.enter-held.ensures.follows.0 c.enter-held.ensures.mark.0 c.enter-held.ensures.own c.enter-held.ensures.alone
    c.history.ensures.led c.history.ensures.draft c.history.ensures.base c.history.ensures.led c.history.ensures.draft c.history.ensures.base c.leave.ensures.seen.0 c.leave.ensures.mark.0 (grows_self held.mark) c.leave.ensures.left in (
      (left_by_turn c.args.desk.now c.args.pass.now c.leave.new.pass held held turn).book_is ∙ book_found c.args.desk.now c.args.pass.now c.leave.new.pass held held turn only,
      ap (λ (m : Mark). m.fault) (turn.mark_is ∙ (turn.alone only).1),
      same_open c.args.desk.now c.args.pass.now c.leave.new.pass held held turn refl only,
    )

pub returns-clause-still : goal.returns-clause-still
returns-clause-still g c only = c.leave.ensures.mark.0 ∙ (c.enter-held.ensures.alone only).1
