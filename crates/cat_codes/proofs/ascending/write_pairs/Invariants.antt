use Rattle.std.proofs.Common.{◌≡◌, ◌++◌, take}
use Rattle.std.specs.List.{flat_map, AllByRecursion}
use Rattle.cat_codes.proofs.ascending.write_pairs.Given as goal

abbrev pub invariant-loop-key : goal.invariant-loop-key
invariant-loop-key g l = record {
  spelled : l.out ≡ l.fn.out ++ flat_map (λ x. g.K.Field.code.spell x.0 ++ g.V.Field.code.spell x.1) (take l.key-index l.pairs);
  fits : AllByRecursion (λ x. g.K.Field.code.Fits x.0 × g.V.Field.code.Fits x.1) (take l.key-index l.pairs);
}
