use Rattle.std.proofs.Common.{sym}
use Rattle.cat_work.specs.BookLaws.{same_book}
use Rattle.cat_work.proofs.alone.release.Goals as goal

pub returns-clause-book : goal.returns-clause-book
returns-clause-book g c =
    sym (same_book c.in-Ok.store c.args.desk c.args.pass (record { opened = sym c.in-Ok.ensures.legal.0; seen_is = sym c.in-Ok.ensures.log.0; mark_is = sym c.in-Ok.ensures.log.1 }) c.history.ensures.led c.history.ensures.draft c.history.ensures.base)

pub returns-clause-mark : goal.returns-clause-mark
returns-clause-mark g c = (c.in-Ok.ensures.log.1, c.in-Ok.ensures.own.1)
