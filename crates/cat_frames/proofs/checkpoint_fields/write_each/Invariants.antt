use Rattle.std.proofs.Common.{◌≡◌, ◌++◌, take}
use Rattle.std.specs.List.{flat_map, AllByRecursion}
use Rattle.cat_frames.specs.Checkpoints.{named_code}
use Rattle.cat_frames.proofs.checkpoint_fields.write_each.Given as goal

abbrev pub invariant-loop-reference : goal.invariant-loop-reference
invariant-loop-reference l = record {
  spelled : l.out ≡ l.fn.out ++ flat_map (named_code).spell (take l.reference-index l.references);
  fits : AllByRecursion (named_code).Fits (take l.reference-index l.references);
}
