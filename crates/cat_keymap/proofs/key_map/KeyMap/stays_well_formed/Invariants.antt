use Rattle.std.proofs.Common.{◌≡◌, drop}
use Rattle.std.specs.List.{list_all}
use Rattle.cat_keymap.specs.Forming.{keeps_form}
use Rattle.cat_keymap.proofs.key_map.KeyMap.stays_well_formed.Given as goal

abbrev pub invariant-loop-key : goal.invariant-loop-key
invariant-loop-key l = list_all (keeps_form l.self) (drop l.key-index l.changes) ≡ list_all (keeps_form l.self) l.changes
