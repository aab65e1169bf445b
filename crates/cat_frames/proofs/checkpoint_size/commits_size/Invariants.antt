use Rattle.std.proofs.Common.{◌≡◌, ◌≤◌, ◌+◌, drop, length}
use Rattle.std.specs.List.{flat_map}
use Rattle.sha2.specs.Sha256.{sha256}
use Rattle.cat_model.specs.Formats.{commit_code}
use Rattle.cat_frames.specs.Checkpoints.{hashed}
use Rattle.cat_frames.specs.Sizes.{capped, size_of}
use Rattle.cat_frames.proofs.checkpoint_size.commits_size.Given as goal

abbrev pub invariant-loop-commit : goal.invariant-loop-commit
invariant-loop-commit l = (capped (l.size + length (flat_map (hashed sha256 commit_code).spell (drop l.commit-index l.commits))) ≡ size_of (hashed sha256 commit_code).spell l.commits) × (l.size ≤ 18446744073709551615)
