use Rattle.std.proofs.Common.{◌≡◌, ◌≤◌, ◌+◌, drop, length}
use Rattle.std.specs.List.{flat_map}
use Rattle.sha2.specs.Sha256.{sha256}
use Rattle.cat_model.specs.Contents.{content_code}
use Rattle.cat_frames.specs.Checkpoints.{hashed}
use Rattle.cat_frames.specs.Sizes.{capped, size_of}
use Rattle.cat_frames.proofs.checkpoint_size.contents_size.Given as goal

abbrev pub invariant-loop-content : goal.invariant-loop-content
invariant-loop-content l = (capped (l.size + length (flat_map (hashed sha256 content_code).spell (drop l.content-index l.contents))) ≡ size_of (hashed sha256 content_code).spell l.contents) × (l.size ≤ 18446744073709551615)
