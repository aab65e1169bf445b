use Rattle.std.proofs.Common.{◌≡◌, ◌++◌, take}
use Rattle.std.specs.List.{flat_map, AllByRecursion}
use Rattle.sha2.specs.Sha256.{sha256}
use Rattle.cat_model.specs.Formats.{commit_code}
use Rattle.cat_frames.specs.Checkpoints.{hashed}
use Rattle.cat_frames.proofs.checkpoint_records.write_each_commit.Given as goal

abbrev pub invariant-loop-hash : goal.invariant-loop-hash
invariant-loop-hash l = record {
  spelled : l.out ≡ l.fn.out ++ flat_map (hashed sha256 commit_code).spell (take l.hash-index l.commits);
  fits : AllByRecursion (hashed sha256 commit_code).Fits (take l.hash-index l.commits);
}
