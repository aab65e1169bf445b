use Rattle.std.proofs.Common.{◌≡◌, ◌≤◌, ◌+◌, drop, length}
use Rattle.std.specs.List.{flat_map}
use Rattle.cat_frames.specs.Checkpoints.{named_code}
use Rattle.cat_frames.specs.Sizes.{capped, size_of}
use Rattle.cat_frames.proofs.checkpoint_size.references_size.Given as goal

abbrev pub invariant-loop-reference : goal.invariant-loop-reference
invariant-loop-reference l = (capped (l.size + length (flat_map (named_code).spell (drop l.reference-index l.references))) ≡ size_of (named_code).spell l.references) × (l.size ≤ 18446744073709551615)
