use Rattle.cat_journal.proofs.Header.{not_down, opened_form, opened_held, opened_holds, opened_known, opened_safe}
use Rattle.cat_journal.proofs.journal.Journal.open.Goals as goal

pub invariant_of-result : goal.invariant_of-result
invariant_of-result g c =
    let t = g.D.Disk.told c.new-disk.result in
    let t1 = g.D.Disk.told c.load.new.disk in
    let x = c.in-Ok.points in
    let newer = c.in-Ok.newer in
    let found = c.in-Ok.ensures.found in
    record {
      formed = opened_form x newer t t1 found c.format_of.result c.format_of.ensures;
      held = opened_held x newer t t1 found;
      safe = λ up. opened_safe x newer t t1 found (g.D.Disk.may_leave c.load.new.disk) c.in-Ok.ensures.durable;
      torn = λ count is. absurd (not_down count is);
      fits = c.in-Ok.ensures.fits.0;
      room = c.in-Ok.ensures.fits.1;
      few = c.in-Ok.ensures.fits.2;
      known = opened_known newer c.format_of.result c.format_of.ensures;
    }

pub returns-in-Ok-clause-holds : goal.returns-in-Ok-clause-holds
returns-in-Ok-clause-holds g c = opened_holds (g.D.Disk.told c.new-disk.result) (g.D.Disk.told c.load.new.disk) c.in-Ok.points c.in-Ok.newer c.in-Ok.ensures.found
