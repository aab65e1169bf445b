use Rattle.std.proofs.Common.{◌≡◌, drop, None}
use Rattle.std.specs.Prelude.{option_map}
use Rattle.cat_codes.specs.Code.{keys_ascend}
use Rattle.cat_codes.proofs.ascending_keys.ascend.Given as goal

abbrev pub invariant-loop-key : goal.invariant-loop-key
invariant-loop-key g l = keys_ascend g.K.Ord.cmp (option_map (λ k. k.now) l.last) (drop l.key-index l.keys) ≡ keys_ascend g.K.Ord.cmp None l.keys
