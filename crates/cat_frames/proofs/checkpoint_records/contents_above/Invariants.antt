use Rattle.std.proofs.Common.{◌≡◌, ◌-◌, None}
use Rattle.sha2.specs.Sha256.{sha256}
use Rattle.cat_codes.specs.Code.{keys_at}
use Rattle.cat_codes.proofs.Items.{keys_left}
use Rattle.cat_model.specs.Contents.{content_code}
use Rattle.cat_frames.specs.Checkpoints.{by_hash, hashed}
use Rattle.cat_frames.proofs.checkpoint_records.contents_above.Given as goal

abbrev pub invariant-loop : goal.invariant-loop
invariant-loop l = keys_left by_hash (hashed sha256 content_code) l.contents (l.count - l.counter) l.from ≡ keys_at by_hash (hashed sha256 content_code) None l.count l.fn.from
