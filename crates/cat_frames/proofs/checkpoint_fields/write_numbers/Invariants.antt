use Rattle.std.proofs.Common.{◌≡◌, ◌++◌, take}
use Rattle.std.specs.List.{flat_map, AllByRecursion}
use Rattle.cat_codes.specs.Code.{u64_code}
use Rattle.cat_frames.proofs.checkpoint_fields.write_numbers.Given as goal

abbrev pub invariant-loop-number : goal.invariant-loop-number
invariant-loop-number l = record {
  spelled : l.out ≡ l.fn.out ++ flat_map (u64_code).spell (take l.number-index l.numbers);
  fits : AllByRecursion (u64_code).Fits (take l.number-index l.numbers);
}
