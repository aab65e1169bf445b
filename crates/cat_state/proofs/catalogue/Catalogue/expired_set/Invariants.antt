use Rattle.std.proofs.Common.{◌≡◌, drop, map}
use Rattle.cat_merge.specs.Planned.{as_planned}
use Rattle.cat_model.specs.KeySets.{key_set}
use Rattle.cat_model.specs.Merges.{all_set}
use Rattle.cat_model.specs.Records.{expired_keys}
use Rattle.cat_state.proofs.Sets.{WithExpired}
use Rattle.cat_state.proofs.catalogue.Catalogue.expired_set.Given as goal

abbrev pub invariant-loop-one : goal.invariant-loop-one
invariant-loop-one l = WithExpired l.self (l.keys).keys (all_set (map as_planned (drop l.one-index l.planned))) ≡ key_set (expired_keys l.self (all_set (map as_planned l.planned)))
