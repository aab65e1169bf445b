use Rattle.std.proofs.Common.{◌≡◌, ◌-◌, None}
use Rattle.cat_codes.specs.Code.{pairs_at}
use Rattle.cat_codes.proofs.Items.{pairs_left}
use Rattle.cat_names.specs.Fields.{key_cmp, key_code}
use Rattle.cat_frames.specs.Sources.{behaviour_code}
use Rattle.cat_frames.proofs.modes.read_keys.Given as goal

abbrev pub invariant-loop : goal.invariant-loop
invariant-loop l = pairs_left key_cmp key_code behaviour_code l.keys (l.count - l.counter) l.from ≡ pairs_at key_cmp key_code behaviour_code None l.count l.fn.from
