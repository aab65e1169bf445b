use Rattle.std.proofs.Common.{sym, ◌∙◌, ap}
use Rattle.cat_work.specs.BookLaws.{same_book}
use Rattle.cat_model.specs.Book.{Book}
use Rattle.cat_model.specs.Maps.{entry_of}
use Rattle.cat_drill.specs.Drill.{on_main}
use Rattle.cat_drill.proofs.Turns.{left_ready}
use Rattle.cat_drill.proofs.run.entry_on_main.Goals as goal

pub returns-clause-entry : goal.returns-clause-entry
returns-clause-entry g c =
    let held = c.enter-held.result.value in
    let alone = c.enter-held.ensures.alone c.requires.alone in
    let same = same_book held c.args.desk.now c.args.pass.now (record { opened = sym c.enter-held.ensures.legal.0; seen_is = sym alone.0; mark_is = sym alone.1 }) c.history.ensures.led c.history.ensures.draft c.history.ensures.base in
    c.entry_on_main-found.ensures ∙ ap (λ (b : Book). entry_of (on_main b.state) c.args.key.now) (sym same)

pub returns-clause-book : goal.returns-clause-book
returns-clause-book g c =
    let held = c.enter-held.result.value in
    let alone = c.enter-held.ensures.alone c.requires.alone in
    let same = same_book held c.args.desk.now c.args.pass.now (record { opened = sym c.enter-held.ensures.legal.0; seen_is = sym alone.0; mark_is = sym alone.1 }) c.history.ensures.led c.history.ensures.draft c.history.ensures.base in
    let now = same_book held c.args.desk.now c.leave.new.pass (record { opened = sym c.enter-held.ensures.legal.0; seen_is = c.leave.ensures.seen.0; mark_is = c.leave.ensures.mark.0 }) c.history.ensures.led c.history.ensures.draft c.history.ensures.base in
    now ∙ sym same

pub returns-clause-ready : goal.returns-clause-ready
returns-clause-ready g c =
    let follows = c.enter-held.ensures.follows.0 in
    left_ready c.args.desk.now c.args.pass.now c.leave.new.pass _ _ c.requires.ready c.leave.ensures.free.0 c.leave.ensures.left.0 c.enter-held.ensures.turn.1 c.enter-held.ensures.own c.leave.ensures.legal (follows.0, c.leave.ensures.seen.0 ∙ follows.1)

pub returns-clause-kept : goal.returns-clause-kept
returns-clause-kept g c = record {
  free = c.leave.ensures.free.0;
  number = c.leave.ensures.free.1 ∙ c.enter-held.ensures.turn.1;
  spare = c.leave.ensures.free.2 ∙ c.enter-held.ensures.turn.2;
  held = c.leave.ensures.free.3 ∙ c.enter-held.ensures.turn.3;
}
