use Rattle.std.specs.Prelude.{◌≡◌, drop}
use Rattle.cat_frames.specs.Checkpoints.{are_open_drafts}
use Rattle.cat_frames.proofs.checkpoint_fields.are_open_drafts.Given as goal

abbrev pub invariant-loop-number : goal.invariant-loop-number
invariant-loop-number l = are_open_drafts l.draft (drop l.number-index l.numbers) ≡ are_open_drafts l.draft l.numbers
