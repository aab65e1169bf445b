use Rattle.std.proofs.Common.{◌∙◌}
use Rattle.cat_keymap.proofs.Agreeing.{changes_are}
use Rattle.cat_keymap.proofs.changing.after.Goals as goal

pub returns : goal.returns
returns c = c.in_ok-changed.ensures ∙ changes_are c.args.changes.now c.args.pairs.now
