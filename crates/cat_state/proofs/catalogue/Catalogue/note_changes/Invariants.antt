use Rattle.std.proofs.Common.{◌≡◌, drop}
use Rattle.cat_model.specs.Merges.{entries_set}
use Rattle.cat_state.proofs.Sets.{WithExpired}
use Rattle.cat_state.proofs.catalogue.Catalogue.note_changes.Given as goal

abbrev pub invariant-loop-key : goal.invariant-loop-key
invariant-loop-key l = WithExpired l.self (l.keys).keys (entries_set (drop l.key-index l.ops)) ≡ WithExpired l.self (l.fn.keys).keys (entries_set l.ops)
