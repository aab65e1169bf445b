use Rattle.std.proofs.Common.{◌∙◌, ap}
use Rattle.cat_cli.specs.Lines.{migrated_line}
use Rattle.cat_cli.proofs.Refused.{of_err, of_ok}
use Rattle.cat_cli.proofs.Renewed.{migrates, renewed_sparing}
use Rattle.cat_cli.proofs.Unspoiled.{looked_on, unspoiled_looked}
use Rattle.cat_cli.proofs.migrating.line_on.Goals as goal

pub returns-in-Ok-renewed-clause-line : goal.returns-in-Ok-renewed-clause-line
returns-in-Ok-renewed-clause-line g c =
    let disk = c.args.disk in
    let mid = c.place_on-disk.result.0 in
    let again = c.renew-disk.result.0 in
    let placed = of_ok _ _ _ _ c.in-Ok.is c.place_on-disk.ensures.place in
    let opened = of_ok _ _ _ _ c.in-Ok.is c.place_on-disk.ensures.bytes in
    let durable = of_ok _ _ _ _ c.in-Ok.is c.place_on-disk.ensures.durable in
    let payloads = placed.3 in
    let begins = placed.4 in
    let is = placed.5 in
    let run =
    renewed_sparing g.D.Disk.told g.D.Disk.may_leave g.D.Disk.moment g.D.Disk.left_since disk mid again (g.D.Disk.told disk) (g.D.Disk.told mid) payloads opened begins.recovers is durable c.place_on-disk.ensures.images
    c.renew-disk.ensures.images in (
      placed.1,
      c.in-Ok-migrated_line.ensures ∙ ap migrated_line placed.2,
      migrates g.D.Disk.told g.D.Disk.may_leave g.D.Disk.moment g.D.Disk.left_since disk mid again payloads placed.0 placed.1 begins opened is
          (of_ok _ _ _ _ c.in-Ok-renewed.is c.renew-disk.ensures.newer) (of_ok _ _ _ _ c.in-Ok-renewed.is c.renew-disk.ensures.bytes) (of_ok _ _ _ _ c.in-Ok-renewed.is c.renew-disk.ensures.payloads)
          (of_ok _ _ _ _ c.in-Ok-renewed.is c.renew-disk.ensures.headed) (of_ok _ _ _ _ c.in-Ok-renewed.is c.renew-disk.ensures.durable) run,
    )

-- nothing was written: it wasn't opened, memory ran out, or it wasn't made one of format 2
pub returns-in-Err-clause-unspoiled : goal.returns-in-Err-clause-unspoiled
returns-in-Err-clause-unspoiled g c other =
    unspoiled_looked g.D.Disk.told g.D.Disk.may_leave g.D.Disk.moment g.D.Disk.left_since c.args.disk c.place_on-disk.result.0 (of_err _ _ _ _ c.in-Err.is c.place_on-disk.ensures.looked other)

pub returns-in_default-clause-unspoiled : goal.returns-in_default-clause-unspoiled
returns-in_default-clause-unspoiled g c other =
    unspoiled_looked g.D.Disk.told g.D.Disk.may_leave g.D.Disk.moment g.D.Disk.left_since c.args.disk c.place_on-disk.result.0 (of_ok _ _ _ _ c.in-Ok.is c.place_on-disk.ensures.looked)

pub returns-in-Err-renewed-clause-unspoiled : goal.returns-in-Err-renewed-clause-unspoiled
returns-in-Err-renewed-clause-unspoiled g c other =
    let met = g.met.D.Disk g.world.𝓛 g.world.𝓜 g.world.𝓡 ((λ s x. x), (λ x. x), (λ x. x), λ x. x) in
    let placed = of_ok _ _ _ _ c.in-Ok.is c.place_on-disk.ensures.place in
    looked_on g.D.Disk.told g.D.Disk.may_leave g.D.Disk.moment g.D.Disk.left_since c.args.disk c.place_on-disk.result.0 c.renew-disk.result.0 placed.3 (of_ok _ _ _ _ c.in-Ok.is c.place_on-disk.ensures.looked) placed.5
    (of_err _ _ _ _ c.in-Err-renewed.is c.renew-disk.ensures.unwritten other) (λ d t b le now. met.counts_now d t b le now)
