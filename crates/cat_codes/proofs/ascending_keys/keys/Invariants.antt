use Rattle.std.proofs.Common.{◌≡◌, ◌-◌, None}
use Rattle.cat_codes.specs.Code.{keys_at}
use Rattle.cat_codes.proofs.Items.{keys_left}
use Rattle.cat_codes.proofs.ascending_keys.keys.Given as goal

abbrev pub invariant-loop : goal.invariant-loop
invariant-loop g l = keys_left g.K.Ord.cmp g.K.Field.code l.keys (l.count - l.counter) l.from ≡ keys_at g.K.Ord.cmp g.K.Field.code None l.count l.fn.from
