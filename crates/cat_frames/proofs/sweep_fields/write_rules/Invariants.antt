use Rattle.std.proofs.Common.{◌≡◌, ◌++◌, take}
use Rattle.std.specs.List.{flat_map, AllByRecursion}
use Rattle.cat_frames.specs.Sweeps.{rule_code}
use Rattle.cat_frames.proofs.sweep_fields.write_rules.Given as goal

abbrev pub invariant-loop-pattern : goal.invariant-loop-pattern
invariant-loop-pattern l = record {
  spelled : l.out ≡ l.fn.out ++ flat_map (rule_code).spell (take l.pattern-index l.rules);
  fits : AllByRecursion (rule_code).Fits (take l.pattern-index l.rules);
}
