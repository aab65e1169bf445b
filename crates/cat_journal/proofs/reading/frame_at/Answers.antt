use Rattle.std.proofs.Common.{arith, rules}
use Rattle.cat_journal.proofs.Found.{is_broken, is_closed, is_whole}
use Rattle.cat_journal.proofs.reading.frame_at.Goals as goal

pub returns-then-gate-ne1-clause-found : goal.returns-then-gate-ne1-clause-found
returns-then-gate-ne1-clause-found g c =
    is_closed (g.D.Disk.told c.args.disk.now) c.args.at c.args.len c.in_ok-gate.size c.in_ok-gate.gate c.in_ok-gate.kind c.requires.len c.requires.inside c.in_ok-gate.ensures.gate (search rules)

pub returns-then-len-at-clause-found : goal.returns-then-len-at-clause-found
returns-then-len-at-clause-found g c =
    is_broken (g.D.Disk.told c.args.disk.now) c.args.at c.args.len c.in_ok-gate.size c.in_ok-gate.gate c.in_ok-gate.kind c.requires.len c.requires.inside c.in_ok-gate.ensures.gate (search rules) c.in_ok-gate.ensures.size (search rules) (omega arith)

pub returns-clause-found : goal.returns-clause-found
returns-clause-found g c =
    rw c.is_base.ensures
    (is_whole (g.D.Disk.told c.args.disk.now) c.args.at c.args.len c.in_ok-gate.size c.in_ok-gate.gate c.in_ok-gate.kind c.requires.len c.requires.inside c.in_ok-gate.ensures.gate (search rules) c.in_ok-gate.ensures.size (search rules) (omega arith) c.in_ok-gate.ensures.kind)
