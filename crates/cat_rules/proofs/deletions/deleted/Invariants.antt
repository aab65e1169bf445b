use Rattle.std.proofs.Common.{◌≡◌, take}
use Rattle.std.specs.List.{list_any}
use Rattle.cat_rules.specs.declared.deletions.ContentName.{ContentName}
use Rattle.cat_rules.specs.Rules.{same_name, deletes}
use Rattle.cat_rules.proofs.deletions.deleted.Given as goal

abbrev pub invariant-loop-op : goal.invariant-loop-op
invariant-loop-op l = (name : ContentName) → list_any (same_name name) l.gone.keys ≡ list_any (deletes l.head name) (take l.op-index l.ops)
