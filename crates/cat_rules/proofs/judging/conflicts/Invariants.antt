use Rattle.std.proofs.Common.{◌≡◌, take}
use Rattle.cat_keymap.specs.Ordered.{values}
use Rattle.cat_rules.specs.Rules
use Rattle.cat_rules.proofs.judging.conflicts.Given as goal

abbrev pub invariant-loop-op : goal.invariant-loop-op
invariant-loop-op l = l.out ≡ Rules.conflicts l.expected l.head l.after l.gone.keys (values (take l.op-index l.sorted))
