use Rattle.std.proofs.Common.{◌≡◌, ◌-◌}
use Rattle.cat_codes.specs.Code.{items_at}
use Rattle.cat_codes.proofs.Items.{with_front}
use Rattle.cat_frames.specs.Sweeps.{rule_code}
use Rattle.cat_frames.proofs.sweep_fields.read_rules.Given as goal

abbrev pub invariant-loop : goal.invariant-loop
invariant-loop l = with_front l.rules (items_at rule_code (l.count - l.counter) l.from) ≡ items_at rule_code l.count l.fn.from
