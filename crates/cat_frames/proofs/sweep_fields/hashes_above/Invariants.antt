use Rattle.std.proofs.Common.{◌≡◌, ◌-◌, None}
use Rattle.cat_codes.specs.Code.{keys_at}
use Rattle.cat_codes.proofs.Items.{keys_left}
use Rattle.cat_names.specs.Fields.{hash_code}
use Rattle.cat_frames.specs.Sweeps.{hash_cmp}
use Rattle.cat_frames.proofs.sweep_fields.hashes_above.Given as goal

abbrev pub invariant-loop : goal.invariant-loop
invariant-loop l = keys_left hash_cmp hash_code l.hashes (l.count - l.counter) l.from ≡ keys_at hash_cmp hash_code None l.count l.fn.from
