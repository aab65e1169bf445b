use Rattle.std.proofs.Common.{◌∙◌, ap, is_lt}
use Rattle.cat_codes.proofs.Items.{last_of_at}
use Rattle.cat_frames.proofs.checkpoint_records.hash_is_next.Goals as goal

pub returns-in-len1-up : goal.returns-in-len1-up
returns-in-len1-up c = rw (last_of_at c.args.contents.now c.last-item.result c.in-len1-up.len_at_least c.last-item.is) (c.is_lt.ensures ∙ ap is_lt c.cmp.ensures)
