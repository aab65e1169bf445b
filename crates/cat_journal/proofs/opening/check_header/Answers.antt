use Rattle.std.proofs.Common.{◌≡◌, ℕ, length, take, drop, sym, subst, arith, rules}
use Rattle.std.specs.Prelude.{IfSome}
use Rattle.cat_journal.specs.Reading.{HasOpenCause}
use Rattle.cat_journal.proofs.Header.{short_found, head_found}
use Rattle.cat_journal.proofs.opening.check_header.Goals as goal

pub returns-then-len-lt17-clause-found : goal.returns-then-len-lt17-clause-found
returns-then-len-lt17-clause-found g c = short_found (g.D.Disk.told c.args.disk.now) c.args.len c.requires.len c.requires.some c.if-len-lt17.true

pub returns-in-Ok-clause-found : goal.returns-in-Ok-clause-found
returns-in-Ok-clause-found g c =
    let told = g.D.Disk.told c.args.disk.now in
    let into = c.read_at.new.into in
    let size : length into ≡ 16 = search rules in
    let part = subst (λ k. IfSome told (λ bytes. take c.in-Ok.count into ≡ take k (drop 0 bytes))) size c.in-Ok.ensures.value in
    head_found told c.args.len (take c.in-Ok.count into) c.check_head.result c.requires.len (omega arith) part c.check_head.ensures.found

pub returns-in-Ok-clause-cause : goal.returns-in-Ok-clause-cause
returns-in-Ok-clause-cause g c =
    subst (λ (n : ℕ). HasOpenCause (g.D.Disk.faults c.args.disk.now) n c.check_head.result) (sym c.in-Ok.ensures.cause.stays) (c.check_head.ensures.cause (g.D.Disk.faults c.args.disk.now))
