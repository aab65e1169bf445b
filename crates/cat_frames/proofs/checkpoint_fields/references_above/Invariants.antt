use Rattle.std.proofs.Common.{◌≡◌, ◌-◌, None}
use Rattle.cat_codes.specs.Code.{keys_at}
use Rattle.cat_codes.proofs.Items.{keys_left}
use Rattle.cat_frames.specs.Checkpoints.{name_cmp, named_code}
use Rattle.cat_frames.proofs.checkpoint_fields.references_above.Given as goal

abbrev pub invariant-loop : goal.invariant-loop
invariant-loop l = keys_left name_cmp named_code l.references (l.count - l.counter) l.from ≡ keys_at name_cmp named_code None l.count l.fn.from
