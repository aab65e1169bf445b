use Rattle.std.proofs.Common.{rules, ◌∙◌}
use Rattle.cat_drill.proofs.Drawn.{no_fault}
use Rattle.cat_drill.proofs.Keys.{made}
use Rattle.cat_drill.proofs.request.drawn_key.Goals as goal

pub unreachable-requires : goal.unreachable-requires
unreachable-requires c =
    no_fault c.args.drawn c.in_ok-only.field-0 c.in-Err.fault c.in_default.not-NoMemory (search rules) c.in-Err.ensures

pub returns-in-Ok : goal.returns-in-Ok
returns-in-Ok c = made _ _ c.in-Ok.ensures ∙ search rules
