use Rattle.std.proofs.Common.{◌≡◌, ◌++◌, take}
use Rattle.std.specs.List.{flat_map, AllByRecursion}
use Rattle.cat_names.specs.Fields.{key_code}
use Rattle.cat_frames.specs.Sources.{behaviour_code}
use Rattle.cat_frames.proofs.modes.write_keys.Given as goal

abbrev pub invariant-loop-key : goal.invariant-loop-key
invariant-loop-key l = record {
  spelled : l.out ≡ l.fn.out ++ flat_map (λ x. (key_code).spell x.0 ++ (behaviour_code).spell x.1) (take l.key-index l.keys);
  fits : AllByRecursion (λ x. (key_code).Fits x.0 × (behaviour_code).Fits x.1) (take l.key-index l.keys);
}
