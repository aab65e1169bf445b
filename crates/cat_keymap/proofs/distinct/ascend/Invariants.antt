use Rattle.std.proofs.Common.{◌≡◌, drop, map, None}
use Rattle.std.specs.Prelude.{option_map}
use Rattle.cat_codes.specs.Code.{keys_ascend}
use Rattle.cat_keymap.proofs.distinct.ascend.Given as goal

abbrev pub invariant-loop-value : goal.invariant-loop-value
invariant-loop-value g l = keys_ascend g.K.Ord.cmp (option_map (λ k. k.now) l.last) (map (λ k. k.now) (drop l.value-index l.values)) ≡ keys_ascend g.K.Ord.cmp None (map (λ k. k.now) l.values)
