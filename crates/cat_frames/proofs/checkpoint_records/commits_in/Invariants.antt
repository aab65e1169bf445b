use Rattle.std.proofs.Common.{◌≡◌, ◌-◌}
use Rattle.sha2.specs.Sha256.{sha256}
use Rattle.cat_codes.specs.Code.{items_at}
use Rattle.cat_codes.proofs.Items.{with_front}
use Rattle.cat_model.specs.Formats.{commit_code}
use Rattle.cat_frames.specs.Checkpoints.{hashed}
use Rattle.cat_frames.proofs.checkpoint_records.commits_in.Given as goal

abbrev pub invariant-loop : goal.invariant-loop
invariant-loop l = with_front l.commits (items_at (hashed sha256 commit_code) (l.count - l.counter) l.from) ≡ items_at (hashed sha256 commit_code) l.count l.fn.from
