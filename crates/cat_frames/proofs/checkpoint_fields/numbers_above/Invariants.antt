use Rattle.std.proofs.Common.{◌≡◌, ◌-◌, None}
use Rattle.std.specs.Ordering.{nat_cmp}
use Rattle.cat_codes.specs.Code.{keys_at, u64_code}
use Rattle.cat_codes.proofs.Items.{keys_left}
use Rattle.cat_frames.proofs.checkpoint_fields.numbers_above.Given as goal

abbrev pub invariant-loop : goal.invariant-loop
invariant-loop l = keys_left nat_cmp u64_code l.numbers (l.count - l.counter) l.from ≡ keys_at nat_cmp u64_code None l.count l.fn.from
