use Rattle.std.proofs.Common.{◌≡◌, take}
use Rattle.cat_keymap.proofs.changing.all_copied.Given as goal

abbrev pub invariant-loop-change : goal.invariant-loop-change
invariant-loop-change l = l.out.items ≡ take l.change-index l.changes
