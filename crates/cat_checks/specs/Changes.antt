-- Which replies tell of a change.
use Rattle.std.specs.Prelude.{Bool, true, false}
use Rattle.cat_model.specs.declared.reply.Reply.{Reply}
use Rattle.cat_model.specs.declared.reply.Reply.TheVariants as replies

-- the reply tells of a change that was made, or of a checkpoint, as no reading call's does, nor that of a merge that changed nothing
abbrev pub tells_change : Reply → Bool
tells_change (replies.Reference reference) = true
tells_change (replies.Committed committed) = true
tells_change (replies.Merged merged) = merged.was_applied
tells_change (replies.Swept swept) = true
tells_change (replies.Checkpoint place) = true
tells_change _ = false
